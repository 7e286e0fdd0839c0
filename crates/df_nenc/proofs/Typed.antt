-- The term of a well-typed expression has the sort of its type.
use Rattle.df_nenc.proofs.Words.{◌≡◌, ℕ, nat_lt, Bool, true, false, List, slice_get, Option, None, Some, refl, sym, ap, ◌∙◌, option_map_or, Ty, AddendOperator, FactorOperator, JunctionKind, Comparison, Expr, Number, Truth, Character, Local, Negate, Not, Sum, Product, Junction, Implies, Iff, Chain, As, Convert, Addends, no_addend, addend, Factors, no_factor, factor, Members, no_member, member, Links, no_link, link, Program, same_type, is_integer, is_arithmetic, casts, converts, is_expr, are_addends, are_factors, are_members, are_links, both, three, four, Sort, Numbers, Truths, Term, term, conjunction, truth_term, sort_of_type, Environment, term_of, sum_of, product_of, members_of, implication_of, equivalence_of, comparisons_of, summed, multiplied, number_in, value_in, compared, joined, goes_on, integer_sort, arithmetic_integer, converted_sort, sort_of_term, counts_as_number}
use Rattle.df_lang.specs.declared.ty.Ty.TheVariants as types
use Rattle.df_lang.specs.declared.expr.AddendOperator.TheVariants as addends
use Rattle.df_lang.specs.declared.expr.FactorOperator.TheVariants as factors
use Rattle.df_lang.specs.declared.expr.Junction.TheVariants as junctions
use Rattle.df_lang.specs.declared.expr.Comparison.TheVariants as comparisons
use Rattle.df_meaning.proofs.Types.{same_type_equal}
use Rattle.std.proofs.lemmas.Bool.{true≢false, and_right}

-- the term is of the sort
abbrev pub Is : Sort → Term → Type 0
Is sort a = sort_of_term a ≡ sort

pub truth_is : (b : Bool) → Is Truths (truth_term b)
truth_is true = refl
truth_is false = refl

pub compared_is : (ty : Ty) (c : Comparison) (a b : Term) → Is Truths (compared ty c a b)
compared_is types.Bool comparisons.Equal a b = refl
compared_is ty comparisons.Equal a b = refl
compared_is ty c a b = refl

pub summed_is : (o : AddendOperator) (a b : Term) → Is Numbers (summed o a b)
summed_is addends.Plus a b = refl
summed_is addends.Minus a b = refl

pub multiplied_is : (o : FactorOperator) (a b : Term) → Is Numbers (multiplied o a b)
multiplied_is factors.Times a b = refl
multiplied_is o a b = refl

sum_is : (env : Environment) (a : Term) (rest : Addends) → Is Numbers a → Is Numbers (sum_of env a rest)
sum_is env a no_addend h = h
sum_is env a (addend o at operand rest) h = sum_is env (summed o a (term_of env operand)) rest (summed_is o a (term_of env operand))

product_is : (env : Environment) (a : Term) (rest : Factors) → Is Numbers a → Is Numbers (product_of env a rest)
product_is env a no_factor h = h
product_is env a (factor o at operand rest) h = product_is env (multiplied o a (term_of env operand)) rest (multiplied_is o a (term_of env operand))

implication_is : (env : Environment) (a : Term) (rest : Members) → Is Truths a → Is Truths (implication_of env a rest)
implication_is env a no_member h = h
implication_is env a (member at operand rest) h = refl

equivalence_is : (env : Environment) (a : Term) (rest : Members) → Is Truths a → Is Truths (equivalence_of env a rest)
equivalence_is env a no_member h = h
equivalence_is env a (member at operand rest) h = equivalence_is env _ rest refl

junction_is : (j : JunctionKind) (env : Environment) (a : Term) (rest : Members) → Is Truths a → Is Truths (joined j (term a (members_of env rest)))
junction_is junctions.And env a no_member h = h
junction_is junctions.Or env a no_member h = h
junction_is j env a rest h = refl

chain_is : (env : Environment) (ty : Ty) (a : Term) (rest : Links) → Is Truths (conjunction (comparisons_of env ty a rest))
chain_is env ty a no_link = refl
chain_is env ty a (link c at operand no_link) = compared_is ty c a (term_of env operand)
chain_is env ty a (link c at operand (link d next other rest)) = refl

-- the number that a value counts as is one
pub number_is : (p : Program) (source target : Ty) (a : Term) → casts p source target ≡ true → Is (sort_of_type source) a → Is Numbers (number_in source a)
number_is p types.Char target a c h = refl
number_is p types.Bool (types.Newtype id) a c h = cc
number_is p types.Bool target a c h = cc
number_is p source target a c h = h

cast_is : (p : Program) (source target : Ty) (a : Term) → casts p source target ≡ true → Is Numbers a → Is (sort_of_type target) (value_in target a)
cast_is p source types.Char a c h = refl
cast_is p (types.Newtype id) types.Bool a c h = absurd (true≢false (sym c ∙ and_right (is_integer p (types.Newtype id)) false refl))
cast_is p source types.Bool a c h = cc
cast_is p source target a c h = h

-- the term of each local has the sort of its type
pub record AreSorted (locals : List Ty) (env : Environment) : Type 0 where
  pub sorted : (local : ℕ) (ty : Ty) → slice_get locals local ≡ Some ty → Is (sort_of_type ty) (env local)

module _ (p : Program) (locals : List Ty) (env : Environment) (all : AreSorted locals env) where
  local_is : (local : ℕ) (ty : Ty) (o : Option Ty) → slice_get locals local ≡ o → option_map_or (same_type ty) o false ≡ true → Is (sort_of_type ty) (env local)
  local_is local ty None there is = cc
  local_is local ty (Some own) there is = all.sorted local own there ∙ ap sort_of_type (sym (same_type_equal ty own is))

  pub term_is : (e : Expr) (ty : Ty) → is_expr p locals ty e ≡ true → Is (sort_of_type ty) (term_of env e)
  term_is (Number own value at) ty is = sym (integer_sort p ty (both (same_type own ty) (is_integer p ty) is).1)
  term_is (Truth value at) ty is = truth_is value ∙ ap sort_of_type (sym (same_type_equal ty types.Bool is))
  term_is (Character code at) ty is = ap sort_of_type (sym (same_type_equal ty types.Char (both (same_type ty types.Char) (nat_lt code 128) is).0))
  term_is (Local local name at) ty is = local_is local ty (slice_get locals local) refl is
  term_is (Negate own at operand) ty is =
      let is = three (same_type own ty) (is_arithmetic p ty) (is_expr p locals ty operand) is in sym (integer_sort p ty (arithmetic_integer p ty is.1))
  term_is (Not at operand) ty is = ap sort_of_type (sym (same_type_equal ty types.Bool (both (same_type ty types.Bool) (is_expr p locals types.Bool operand) is).0))
  term_is (Sum own first rest) ty is =
      let is = four (same_type own ty) (is_arithmetic p ty) (is_expr p locals ty first) (are_addends p locals ty rest) is in
      let numbers = integer_sort p ty (arithmetic_integer p ty is.1) in
      sum_is env (term_of env first) rest (term_is first ty is.2 ∙ numbers) ∙ sym numbers
  term_is (Product own first rest) ty is =
      let is = four (same_type own ty) (is_arithmetic p ty) (is_expr p locals ty first) (are_factors p locals ty rest) is in
      let numbers = integer_sort p ty (arithmetic_integer p ty is.1) in
      product_is env (term_of env first) rest (term_is first ty is.2 ∙ numbers) ∙ sym numbers
  term_is (Junction junction first rest) ty is =
      let is = three (same_type ty types.Bool) (is_expr p locals types.Bool first) (are_members p locals rest) is in
      junction_is junction env (term_of env first) rest (term_is first types.Bool is.1) ∙ ap sort_of_type (sym (same_type_equal ty types.Bool is.0))
  term_is (Implies arrow first rest) ty is =
      let is = three (same_type ty types.Bool) (is_expr p locals types.Bool first) (are_members p locals rest) is in
      implication_is env (term_of env first) rest (term_is first types.Bool is.1) ∙ ap sort_of_type (sym (same_type_equal ty types.Bool is.0))
  term_is (Iff first rest) ty is =
      let is = three (same_type ty types.Bool) (is_expr p locals types.Bool first) (are_members p locals rest) is in
      equivalence_is env (term_of env first) rest (term_is first types.Bool is.1) ∙ ap sort_of_type (sym (same_type_equal ty types.Bool is.0))
  term_is (Chain own first rest) ty is =
      let is = three (same_type ty types.Bool) (is_expr p locals own first) (are_links p locals own rest) is in
      chain_is env own (term_of env first) rest ∙ ap sort_of_type (sym (same_type_equal ty types.Bool is.0))
  term_is (As source target at operand) ty is =
      let is = three (same_type target ty) (casts p source target) (is_expr p locals source operand) is in
      cast_is p source target (number_in source (term_of env operand)) is.1 (number_is p source target (term_of env operand) is.1 (term_is operand source is.2)) ∙ ap sort_of_type (same_type_equal target ty is.0)
  term_is (Convert source target at operand) ty is =
      let is = three (same_type target ty) (converts source target) (is_expr p locals source operand) is in
      term_is operand source is.2 ∙ converted_sort source target is.1 ∙ ap sort_of_type (same_type_equal target ty is.0)

-- what a value counts as is a number
pub counted_number : (ty : Ty) (a : Term) → counts_as_number ty ≡ true → Is (sort_of_type ty) a → Is Numbers (number_in ty a)
counted_number types.Char a o h = refl
counted_number types.Int a o h = h
counted_number types.Nat a o h = h
counted_number (types.Newtype id) a o h = h
counted_number types.Bool a o h = cc

pub goes_on_is : (j : JunctionKind) (a : Term) → Is Truths a → Is Truths (goes_on j a)
goes_on_is junctions.And a h = h
goes_on_is junctions.Or a h = refl
