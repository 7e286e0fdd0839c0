-- Terms of well-typed expressions have values of the sorts of their types.
use Rattle.std.proofs.Common.{◌≡◌, ℕ, ℤ, pos, negsuc, int_le, nat_lt, Bool, true, false, ◌&&◌, if◌then◌else◌, List, slice_get, Option, None, Some, refl, ◌∙◌, arith}
use Rattle.std.specs.Option.{option_map_or}
use Rattle.std.specs.List.{list_all, AllByRecursion}
use Rattle.df_lang.specs.declared.ty.Ty.{Ty}
use Rattle.df_lang.specs.declared.ty.Ty.TheVariants as types
use Rattle.df_lang.specs.declared.expr.AddendOperator.{AddendOperator}
use Rattle.df_lang.specs.declared.expr.AddendOperator.TheVariants as addends
use Rattle.df_lang.specs.declared.expr.FactorOperator.{FactorOperator}
use Rattle.df_lang.specs.declared.expr.FactorOperator.TheVariants as factors
use Rattle.df_lang.specs.declared.expr.Junction.{Junction as JunctionKind}
use Rattle.df_lang.specs.declared.expr.Junction.TheVariants as junctions
use Rattle.df_lang.specs.declared.expr.Comparison.{Comparison}
use Rattle.df_lang.specs.declared.expr.Comparison.TheVariants as comparisons
use Rattle.df_lang.specs.Expr.{Expr, Number, Truth, Character, Local, Negate, Not, Sum, Product, Junction, Implies, Iff, Chain, As, Convert, Addends, no_addend, addend, Factors, no_factor, factor, Members, no_member, member, Links, no_link, link}
use Rattle.df_lang.specs.Program.{Program}
use Rattle.df_lang.specs.Newtype.{same_type}
use Rattle.df_lang.specs.Typing.{is_integer, is_arithmetic, casts, converts, is_expr, are_addends, are_factors, are_members, are_links}
use Rattle.df_lang.specs.Assignment.{Use, reads}
use Rattle.df_meaning.specs.Value.{Value, truth_of}
use Rattle.df_meaning.specs.Value as values
use Rattle.df_meaning.specs.Types.{has_type}
use Rattle.df_meaning.specs.State.{State}
use Rattle.df_meaning.proofs.Cases.{both, three, four}
use Rattle.df_meaning.proofs.Types.{same_type_equal}
use Rattle.df_nterm.specs.Term.{Numbers, Truths, Characters, Term, Terms, no_term, term, conjunction, truth_term, sort_of_type}
use Rattle.df_nterm.specs.Meaning.{Interpretation, has_sort, is_code, character_of, number, value}
use Rattle.df_nterm.specs.Meaning as meanings
use Rattle.df_nterm.specs.Expressions.{Environment, term_of, sum_of, product_of, members_of, implication_of, equivalence_of, comparisons_of, summed, multiplied, number_in, value_in, compared, joined}
use Rattle.df_nterm.proofs.Told.{all_left}

-- the term of a local has a value of the sort of its type, and that of the local, if it has one
pub record Holds (i : Interpretation) (locals : List Ty) (env : Environment) (s : State) (local : ℕ) : Type 0 where
  pub sorted : (ty : Ty) → slice_get locals local ≡ Some ty → has_sort (sort_of_type ty) (value i (env local)) ≡ true
  pub term : (v : Value) → s.locals local ≡ Some v → value i (env local) ≡ v

abbrev pub HoldsOn : Interpretation → List Ty → Environment → State → List Use → Type 0
HoldsOn i locals env s uses = AllByRecursion (λ (one : Use). Holds i locals env s one.local) uses

-- the value is of the sort of the type
abbrev pub IsSorted : Ty → Value → Type 0
IsSorted ty v = has_sort (sort_of_type ty) v ≡ true

-- ---- values of a sort

pub truth_form : (v : Value) → has_sort Truths v ≡ true → v ≡ values.Truth (truth_of v)
truth_form (values.Truth b) h = refl
truth_form (values.Character c) h = cc
truth_form (values.Number n) h = cc
truth_form (values.Text cs) h = cc

pub number_form : (v : Value) → has_sort Numbers v ≡ true → v ≡ values.Number (values.number_of v)
number_form (values.Truth b) h = cc
number_form (values.Character c) h = cc
number_form (values.Number n) h = refl
number_form (values.Text cs) h = cc

-- a value of a type is of its sort
pub typed_sorted : (p : Program) (ty : Ty) (v : Value) → has_type p ty v ≡ true → IsSorted ty v
typed_sorted p types.Bool (values.Truth b) h = refl
typed_sorted p types.Bool (values.Character c) h = cc
typed_sorted p types.Bool (values.Number n) h = cc
typed_sorted p types.Bool (values.Text cs) h = cc
typed_sorted p types.Char (values.Truth b) h = cc
typed_sorted p types.Char (values.Character c) h = h
typed_sorted p types.Char (values.Number n) h = cc
typed_sorted p types.Char (values.Text cs) h = cc
typed_sorted p types.Int (values.Truth b) h = cc
typed_sorted p types.Int (values.Character c) h = cc
typed_sorted p types.Int (values.Number n) h = refl
typed_sorted p types.Int (values.Text cs) h = cc
typed_sorted p types.Nat (values.Truth b) h = cc
typed_sorted p types.Nat (values.Character c) h = cc
typed_sorted p types.Nat (values.Number n) h = refl
typed_sorted p types.Nat (values.Text cs) h = cc
typed_sorted p (types.Newtype id) (values.Truth b) h = cc
typed_sorted p (types.Newtype id) (values.Character c) h = cc
typed_sorted p (types.Newtype id) (values.Number n) h = refl
typed_sorted p (types.Newtype id) (values.Text cs) h = cc

-- values of an integer type are numbers
pub integer_sort : (p : Program) (ty : Ty) → is_integer p ty ≡ true → sort_of_type ty ≡ Numbers
integer_sort p (types.Newtype id) e = refl
integer_sort p types.Int e = refl
integer_sort p types.Nat e = refl
integer_sort p types.Bool e = cc
integer_sort p types.Char e = cc

pub arithmetic_integer : (p : Program) (ty : Ty) → is_arithmetic p ty ≡ true → is_integer p ty ≡ true
arithmetic_integer p (types.Newtype id) e = e
arithmetic_integer p types.Int e = e
arithmetic_integer p types.Nat e = cc
arithmetic_integer p types.Bool e = cc
arithmetic_integer p types.Char e = cc

character_sorted : (n : ℤ) → has_sort Characters (character_of n) ≡ true
character_sorted (pos c) = by_code (is_code (pos c)) refl
  where
    by_code : (b : Bool) → is_code (pos c) ≡ b → has_sort Characters (if b then values.Character c else values.Character 68) ≡ true
    by_code true e = let both = both (int_le (pos 0) (pos c)) (int_le (pos c) (pos 127)) e in grind arith
    by_code false e = refl
character_sorted (negsuc n) = refl

-- conversions keep the sort
pub converted_sort : (source target : Ty) → converts source target ≡ true → sort_of_type source ≡ sort_of_type target
converted_sort types.Nat types.Int e = refl
converted_sort types.Int types.Nat e = refl
converted_sort (types.Newtype a) (types.Newtype b) e = refl
converted_sort (types.Newtype a) types.Int e = cc
converted_sort (types.Newtype a) types.Nat e = cc
converted_sort (types.Newtype a) types.Bool e = cc
converted_sort (types.Newtype a) types.Char e = cc
converted_sort types.Int (types.Newtype b) e = cc
converted_sort types.Int types.Int e = refl
converted_sort types.Int types.Bool e = cc
converted_sort types.Int types.Char e = cc
converted_sort types.Nat (types.Newtype b) e = cc
converted_sort types.Nat types.Nat e = refl
converted_sort types.Nat types.Bool e = cc
converted_sort types.Nat types.Char e = cc
converted_sort types.Bool (types.Newtype b) e = cc
converted_sort types.Bool types.Int e = cc
converted_sort types.Bool types.Nat e = cc
converted_sort types.Bool types.Bool e = refl
converted_sort types.Bool types.Char e = cc
converted_sort types.Char (types.Newtype b) e = cc
converted_sort types.Char types.Int e = cc
converted_sort types.Char types.Nat e = cc
converted_sort types.Char types.Bool e = cc
converted_sort types.Char types.Char e = refl

module _ (i : Interpretation) where
  pub truth_term_form : (b : Bool) → value i (truth_term b) ≡ values.Truth b
  truth_term_form true = refl
  truth_term_form false = refl

  pub compared_form : (ty : Ty) (c : Comparison) (a b : Term) → value i (compared ty c a b) ≡ values.Truth (truth_of (value i (compared ty c a b)))
  compared_form types.Bool comparisons.Equal a b = refl
  compared_form types.Char comparisons.Equal a b = refl
  compared_form types.Int comparisons.Equal a b = refl
  compared_form types.Nat comparisons.Equal a b = refl
  compared_form (types.Newtype id) comparisons.Equal a b = refl
  compared_form ty comparisons.NotEqual a b = refl
  compared_form ty comparisons.Less a b = refl
  compared_form ty comparisons.AtMost a b = refl
  compared_form ty comparisons.Greater a b = refl
  compared_form ty comparisons.AtLeast a b = refl

  -- a conjunction of truths has the truth of all
  pub conjunction_form : (parts : Terms) → ((a : Term) → parts ≡ term a no_term → value i a ≡ values.Truth (truth_of (value i a)))
      → value i (conjunction parts) ≡ values.Truth (list_all truth_of (meanings.values i parts))
  conjunction_form no_term h = refl
  conjunction_form (term a no_term) h = h a refl ∙ one (truth_of (value i a))
    where
      one : (b : Bool) → values.Truth b ≡ values.Truth (b && true)
      one true = refl
      one false = refl
  conjunction_form (term a (term b others)) h = refl

  summed_sorted : (o : AddendOperator) (a b : Term) → has_sort Numbers (value i (summed o a b)) ≡ true
  summed_sorted addends.Plus a b = refl
  summed_sorted addends.Minus a b = refl

  multiplied_sorted : (o : FactorOperator) (a b : Term) → has_sort Numbers (value i (multiplied o a b)) ≡ true
  multiplied_sorted factors.Times a b = refl
  multiplied_sorted factors.Divide a b = refl
  multiplied_sorted factors.Modulo a b = refl

  sum_sorted : (env : Environment) (a : Term) (rest : Addends) → has_sort Numbers (value i a) ≡ true → has_sort Numbers (value i (sum_of env a rest)) ≡ true
  sum_sorted env a no_addend h = h
  sum_sorted env a (addend o at operand rest) h = sum_sorted env (summed o a (term_of env operand)) rest (summed_sorted o a (term_of env operand))

  product_sorted : (env : Environment) (a : Term) (rest : Factors) → has_sort Numbers (value i a) ≡ true → has_sort Numbers (value i (product_of env a rest)) ≡ true
  product_sorted env a no_factor h = h
  product_sorted env a (factor o at operand rest) h = product_sorted env (multiplied o a (term_of env operand)) rest (multiplied_sorted o a (term_of env operand))

  pub implication_sorted : (env : Environment) (a : Term) (rest : Members) → has_sort Truths (value i a) ≡ true → has_sort Truths (value i (implication_of env a rest)) ≡ true
  implication_sorted env a no_member h = h
  implication_sorted env a (member at operand rest) h = refl

  equivalence_sorted : (env : Environment) (a : Term) (rest : Members) → has_sort Truths (value i a) ≡ true → has_sort Truths (value i (equivalence_of env a rest)) ≡ true
  equivalence_sorted env a no_member h = h
  equivalence_sorted env a (member at operand rest) h = equivalence_sorted env _ rest refl

  junction_sorted : (j : JunctionKind) (env : Environment) (a : Term) (rest : Members) → has_sort Truths (value i a) ≡ true → has_sort Truths (value i (joined j (term a (members_of env rest)))) ≡ true
  junction_sorted junctions.And env a no_member h = h
  junction_sorted junctions.And env a (member at operand rest) h = refl
  junction_sorted junctions.Or env a no_member h = h
  junction_sorted junctions.Or env a (member at operand rest) h = refl

  chain_sorted : (env : Environment) (ty : Ty) (a : Term) (rest : Links) → has_sort Truths (value i (conjunction (comparisons_of env ty a rest))) ≡ true
  chain_sorted env ty a no_link = refl
  chain_sorted env ty a (link c at operand no_link) = rw (compared_form ty c a (term_of env operand)) refl
  chain_sorted env ty a (link c at operand (link d next other rest)) = refl

  -- the number that a value counts as is one
  pub number_sorted : (p : Program) (source target : Ty) (a : Term) → casts p source target ≡ true → IsSorted source (value i a) → has_sort Numbers (value i (number_in source a)) ≡ true
  number_sorted p types.Char target a c h = refl
  number_sorted p types.Int target a c h = h
  number_sorted p types.Nat target a c h = h
  number_sorted p (types.Newtype id) target a c h = h
  number_sorted p types.Bool (types.Newtype id) a c h = cc
  number_sorted p types.Bool types.Int a c h = cc
  number_sorted p types.Bool types.Nat a c h = cc
  number_sorted p types.Bool types.Bool a c h = cc
  number_sorted p types.Bool types.Char a c h = cc

  cast_sorted : (p : Program) (source target : Ty) (a : Term) → casts p source target ≡ true → has_sort Numbers (value i a) ≡ true → IsSorted target (value i (value_in target a))
  cast_sorted p source types.Char a c h = character_sorted (number i a)
  cast_sorted p source types.Int a c h = h
  cast_sorted p source types.Nat a c h = h
  cast_sorted p source (types.Newtype id) a c h = h
  cast_sorted p types.Char types.Bool a c h = cc
  cast_sorted p types.Int types.Bool a c h = cc
  cast_sorted p types.Nat types.Bool a c h = cc
  cast_sorted p types.Bool types.Bool a c h = cc
  cast_sorted p (types.Newtype id) types.Bool a c h = absurd (no_cast (is_integer p (types.Newtype id)) c)
    where
      no_cast : (b : Bool) → (b && false) ≡ true → ⊥
      no_cast true e = cc
      no_cast false e = cc

module _ (i : Interpretation) (p : Program) (locals : List Ty) (env : Environment) (s : State) where
  local_sorted : (local : ℕ) (ty : Ty) → Holds i locals env s local → (o : Option Ty) → slice_get locals local ≡ o → option_map_or (same_type ty) o false ≡ true → IsSorted ty (value i (env local))
  local_sorted local ty h None there is = cc
  local_sorted local ty h (Some own) there is = rw (same_type_equal ty own is) (h.sorted own there)

  pub term_sorted : (e : Expr) (ty : Ty) → is_expr p locals ty e ≡ true → HoldsOn i locals env s (reads e) → IsSorted ty (value i (term_of env e))
  term_sorted (Number own value at) ty is h =
      let is = both (same_type own ty) (is_integer p ty) is in rw (integer_sort p ty is.1) refl
  term_sorted (Truth value at) ty is h = rw (same_type_equal ty types.Bool is, truth_term_form i value) refl
  term_sorted (Character code at) ty is h =
      let is = both (same_type ty types.Char) (nat_lt code 128) is in rw (same_type_equal ty types.Char is.0) (character_sorted (pos code))
  term_sorted (Local local name at) ty is h = local_sorted local ty h.0 (slice_get locals local) refl is
  term_sorted (Negate own at operand) ty is h =
      let is = three (same_type own ty) (is_arithmetic p ty) (is_expr p locals ty operand) is in rw (integer_sort p ty (arithmetic_integer p ty is.1)) refl
  term_sorted (Not at operand) ty is h =
      let is = both (same_type ty types.Bool) (is_expr p locals types.Bool operand) is in rw (same_type_equal ty types.Bool is.0) refl
  term_sorted (Sum own first rest) ty is h =
      let is = four (same_type own ty) (is_arithmetic p ty) (is_expr p locals ty first) (are_addends p locals ty rest) is in
      let numbers = integer_sort p ty (arithmetic_integer p ty is.1) in
      rw (numbers) (sum_sorted i env (term_of env first) rest (rw (← numbers) (term_sorted first ty is.2 (all_left _ (reads first) _ h))))
  term_sorted (Product own first rest) ty is h =
      let is = four (same_type own ty) (is_arithmetic p ty) (is_expr p locals ty first) (are_factors p locals ty rest) is in
      let numbers = integer_sort p ty (arithmetic_integer p ty is.1) in
      rw (numbers) (product_sorted i env (term_of env first) rest (rw (← numbers) (term_sorted first ty is.2 (all_left _ (reads first) _ h))))
  term_sorted (Junction junction first rest) ty is h =
      let is = three (same_type ty types.Bool) (is_expr p locals types.Bool first) (are_members p locals rest) is in
      rw (same_type_equal ty types.Bool is.0) (junction_sorted i junction env (term_of env first) rest (term_sorted first types.Bool is.1 (all_left _ (reads first) _ h)))
  term_sorted (Implies arrow first rest) ty is h =
      let is = three (same_type ty types.Bool) (is_expr p locals types.Bool first) (are_members p locals rest) is in
      rw (same_type_equal ty types.Bool is.0) (implication_sorted i env (term_of env first) rest (term_sorted first types.Bool is.1 (all_left _ (reads first) _ h)))
  term_sorted (Iff first rest) ty is h =
      let is = three (same_type ty types.Bool) (is_expr p locals types.Bool first) (are_members p locals rest) is in
      rw (same_type_equal ty types.Bool is.0) (equivalence_sorted i env (term_of env first) rest (term_sorted first types.Bool is.1 (all_left _ (reads first) _ h)))
  term_sorted (Chain own first rest) ty is h =
      let is = three (same_type ty types.Bool) (is_expr p locals own first) (are_links p locals own rest) is in
      rw (same_type_equal ty types.Bool is.0) (chain_sorted i env own (term_of env first) rest)
  term_sorted (As source target at operand) ty is h =
      let is = three (same_type target ty) (casts p source target) (is_expr p locals source operand) is in
      rw (← same_type_equal target ty is.0) (cast_sorted i p source target (number_in source (term_of env operand)) is.1
      (number_sorted i p source target (term_of env operand) is.1 (term_sorted operand source is.2 h)))
  term_sorted (Convert source target at operand) ty is h =
      let is = three (same_type target ty) (converts source target) (is_expr p locals source operand) is in
      rw (← same_type_equal target ty is.0, ← converted_sort source target is.1) (term_sorted operand source is.2 h)
