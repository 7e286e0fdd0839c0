-- The value of a well-typed expression is of its type.
use Rattle.std.proofs.Common.{◌≡◌, ℕ, ℤ, pos, negsuc, neg_ℤ, int_le, nat_lt, true, false, not, ◌&&◌, List, slice_get, Option, Some, None, refl, sym, subst, arith}
use Rattle.std.specs.Option.{option_map_or}
use Rattle.df_base.specs.declared.pos.Pos.{Pos}
use Rattle.df_lang.specs.declared.ty.Ty.{Ty}
use Rattle.df_lang.specs.declared.ty.Ty.TheVariants as types
use Rattle.df_lang.specs.declared.expr.FactorOperator.{FactorOperator}
use Rattle.df_lang.specs.declared.expr.FactorOperator.TheVariants as factors
use Rattle.df_lang.specs.declared.expr.Junction.{Junction as JunctionKind}
use Rattle.df_lang.specs.Expr.{Expr, Number, Truth, Character, Local, Negate, Not, Sum, Product, Junction, Implies, Iff, Chain, As, Convert, Addends, no_addend, addend, Factors, no_factor, factor, Members, no_member, member, Links, no_link, link}
use Rattle.df_lang.specs.Program.{Program}
use Rattle.df_lang.specs.Newtype.{same_type}
use Rattle.df_lang.specs.Typing.{is_integer, is_arithmetic, casts, converts, is_expr, are_addends, are_factors, are_members, are_links}
use Rattle.df_meaning.specs.declared.kind.Kind.TheVariants as kinds
use Rattle.df_meaning.specs.Value.{Value, number_of, truth_of, same_truth}
use Rattle.df_meaning.specs.Value as values
use Rattle.df_meaning.specs.Types.{is_in, has_type}
use Rattle.df_meaning.specs.Outcome.{Gives, Wrong}
use Rattle.df_meaning.specs.State.{State, value_at}
use Rattle.df_meaning.specs.Meaning.{Meaning}
use Rattle.df_meaning.specs.Evaluation.{in_range, value_in, code_of, as_type, converted, multiplied, compare, decides, value_of_local, evaluate, evaluate_addends, evaluate_factors, evaluate_junction, evaluate_implications, evaluate_equivalences, evaluate_links}
use Rattle.df_meaning.specs.Typed.{AreTyped}
use Rattle.df_meaning.proofs.Cases.{IfGives, after_gives, after_any, choice, guarded, both, three, four}
use Rattle.df_meaning.proofs.Types.{same_type_equal, truth_typed, number_typed, arithmetic_is_integer, same_typed}

-- the value is of the type
abbrev pub Is : Program → Ty → Value → Type 0
Is p ty v = has_type p ty v ≡ true

range_typed : (p : Program) (ty : Ty) (at : Pos) (z : ℤ) → is_integer p ty ≡ true → IfGives (Is p ty) (in_range p ty at z)
range_typed p ty at z i = guarded (IfGives (Is p ty)) (is_in p ty z) (Gives (values.Number z)) (Wrong at kinds.Range) (λ e. number_typed p ty z i e) tt

range_as : (p : Program) (own ty : Ty) (at : Pos) (z : ℤ) → same_type own ty ≡ true → is_integer p ty ≡ true → IfGives (Is p ty) (in_range p own at z)
range_as p own ty at z same i = subst (λ (t : Ty). IfGives (Is p ty) (in_range p t at z)) (sym (same_type_equal own ty same)) (range_typed p ty at z i)

multiplied_typed : (p : Program) (operator : FactorOperator) (own ty : Ty) (at : Pos) (a b : ℤ) → same_type own ty ≡ true → is_integer p ty ≡ true → IfGives (Is p ty) (multiplied p operator own at a b)
multiplied_typed p factors.Times own ty at a b same i = range_as p own ty at _ same i
multiplied_typed p factors.Divide own ty at a b same i = choice (IfGives (Is p ty)) _ (Wrong at kinds.Divisor) _ tt (range_as p own ty at _ same i)
multiplied_typed p factors.Modulo own ty at a b same i = choice (IfGives (Is p ty)) _ (Wrong at kinds.Divisor) _ tt (range_as p own ty at _ same i)

local_typed : (p : Program) (locals : List Ty) (s : State) (local : ℕ) (ty : Ty) (o : Option Value) → AreTyped p locals s → value_at s local ≡ o → option_map_or (same_type ty) (slice_get locals local) false ≡ true
    → IfGives (Is p ty) (value_of_local o)
local_typed p locals s local ty None typed e is = tt
local_typed p locals s local ty (Some v) typed e is = found (slice_get locals local) refl is
  where
    found : (t : Option Ty) → slice_get locals local ≡ t → option_map_or (same_type ty) t false ≡ true → has_type p ty v ≡ true
    found None there is = cc
    found (Some t) there is = subst (λ (u : Ty). has_type p u v ≡ true) (sym (same_type_equal ty t is)) (typed.at local t v there e)

code_typed : (z : ℤ) → (int_le (pos 0) z && int_le z (pos 127)) ≡ true → nat_lt (code_of z) 128 ≡ true
code_typed (pos c) e = grind arith
code_typed (negsuc c) e = cc

cast_typed : (p : Program) (source target : Ty) (at : Pos) (z : ℤ) → casts p source target ≡ true → IfGives (Is p target) (as_type p target at z)
cast_typed p source (types.Newtype id) at z c = guarded (IfGives (Is p (types.Newtype id))) (is_in p (types.Newtype id) z) (Gives (values.Number z)) (Wrong at kinds.Range) (λ e. e) tt
cast_typed p source types.Int at z c = refl
cast_typed p source types.Nat at z c = guarded (IfGives (Is p types.Nat)) (is_in p types.Nat z) (Gives (values.Number z)) (Wrong at kinds.Range) (λ e. e) tt
cast_typed p source types.Bool at z c = tt
cast_typed p source types.Char at z c = guarded (IfGives (Is p types.Char)) (is_in p types.Char z) (Gives (value_in types.Char z)) (Wrong at kinds.Range) (λ e. code_typed z e) tt

int_of_nat : (p : Program) (v : Value) → has_type p types.Nat v ≡ true → has_type p types.Int v ≡ true
int_of_nat p (values.Number z) h = refl
int_of_nat p (values.Truth b) h = cc
int_of_nat p (values.Character c) h = cc
int_of_nat p (values.Text cs) h = cc

pub converted_typed : (p : Program) (source target : Ty) (at : Pos) (v : Value) → converts source target ≡ true → has_type p source v ≡ true → IfGives (Is p target) (converted p source target at v)
converted_typed p types.Int types.Nat at v c h = range_typed p types.Nat at (number_of v) refl
converted_typed p types.Nat types.Int at v c h = int_of_nat p v h
converted_typed p (types.Newtype a) target at v c h = same_typed p (types.Newtype a) target v c h
converted_typed p types.Bool target at v c h = same_typed p types.Bool target v c h
converted_typed p types.Char target at v c h = same_typed p types.Char target v c h
converted_typed p types.Int (types.Newtype a) at v c h = cc
converted_typed p types.Int types.Int at v c h = h
converted_typed p types.Int types.Bool at v c h = cc
converted_typed p types.Int types.Char at v c h = cc
converted_typed p types.Nat (types.Newtype a) at v c h = cc
converted_typed p types.Nat types.Nat at v c h = h
converted_typed p types.Nat types.Bool at v c h = cc
converted_typed p types.Nat types.Char at v c h = cc

mutual
  pub evaluate_typed : (m : Meaning) (locals : List Ty) (s : State) → AreTyped m.program locals s → (e : Expr) (ty : Ty) → is_expr m.program locals ty e ≡ true → IfGives (Is m.program ty) (evaluate m s e)
  evaluate_typed m locals s typed (Number own value at) ty is =
      let is = both (same_type own ty) (is_integer m.program ty) is in range_as m.program own ty at value is.0 is.1
  evaluate_typed m locals s typed (Truth value at) ty is = truth_typed m.program ty value is
  evaluate_typed m locals s typed (Character code at) ty is =
      let is = both (same_type ty types.Char) (nat_lt code 128) is in
      subst (λ (t : Ty). has_type m.program t (values.Character code) ≡ true) (sym (same_type_equal ty types.Char is.0)) is.1
  evaluate_typed m locals s typed (Local local name at) ty is = local_typed m.program locals s local ty (value_at s local) typed refl is
  evaluate_typed m locals s typed (Negate own at operand) ty is =
      let is = three (same_type own ty) (is_arithmetic m.program ty) (is_expr m.program locals ty operand) is in
      after_any (Is m.program ty) (evaluate m s operand) (λ v. in_range m.program own at (neg_ℤ (number_of v))) (λ v. range_as m.program own ty at _ is.0 (arithmetic_is_integer m.program ty is.1))
  evaluate_typed m locals s typed (Not at operand) ty is =
      let is = both (same_type ty types.Bool) (is_expr m.program locals types.Bool operand) is in
      after_any (Is m.program ty) (evaluate m s operand) (λ v. Gives (values.Truth (not (truth_of v)))) (λ v. truth_typed m.program ty _ is.0)
  evaluate_typed m locals s typed (Sum own first rest) ty is =
      let is = four (same_type own ty) (is_arithmetic m.program ty) (is_expr m.program locals ty first) (are_addends m.program locals ty rest) is in
      after_gives (Is m.program ty) (Is m.program ty) _ _ (evaluate_typed m locals s typed first ty is.2) (λ v h.
      addends_typed m locals s rest own ty v is.0 (arithmetic_is_integer m.program ty is.1) h)
  evaluate_typed m locals s typed (Product own first rest) ty is =
      let is = four (same_type own ty) (is_arithmetic m.program ty) (is_expr m.program locals ty first) (are_factors m.program locals ty rest) is in
      after_gives (Is m.program ty) (Is m.program ty) _ _ (evaluate_typed m locals s typed first ty is.2) (λ v h.
      factors_typed m locals s rest own ty v is.0 (arithmetic_is_integer m.program ty is.1) h)
  evaluate_typed m locals s typed (Junction junction first rest) ty is =
      let is = three (same_type ty types.Bool) (is_expr m.program locals types.Bool first) (are_members m.program locals rest) is in
      after_gives (Is m.program types.Bool) (Is m.program ty) _ _ (evaluate_typed m locals s typed first types.Bool is.1) (λ v h.
      junction_typed m locals s typed junction rest ty v is.0 is.2 h)
  evaluate_typed m locals s typed (Implies arrow first rest) ty is =
      let is = three (same_type ty types.Bool) (is_expr m.program locals types.Bool first) (are_members m.program locals rest) is in
      after_gives (Is m.program types.Bool) (Is m.program ty) _ _ (evaluate_typed m locals s typed first types.Bool is.1) (λ v h.
      implications_typed m locals s typed rest ty v is.0 is.2 h)
  evaluate_typed m locals s typed (Iff first rest) ty is =
      let is = three (same_type ty types.Bool) (is_expr m.program locals types.Bool first) (are_members m.program locals rest) is in
      after_gives (Is m.program types.Bool) (Is m.program ty) _ _ (evaluate_typed m locals s typed first types.Bool is.1) (λ v h.
      equivalences_typed m locals s rest ty v is.0 h)
  evaluate_typed m locals s typed (Chain own first rest) ty is =
      let is = three (same_type ty types.Bool) (is_expr m.program locals own first) (are_links m.program locals own rest) is in
      after_any (Is m.program ty) (evaluate m s first) (λ v. evaluate_links m s v rest) (λ v. links_typed m locals s rest ty v is.0)
  evaluate_typed m locals s typed (As source target at operand) ty is =
      let is = three (same_type target ty) (casts m.program source target) (is_expr m.program locals source operand) is in
      after_any (Is m.program ty) (evaluate m s operand) (λ v. as_type m.program target at (number_of v)) (λ v. subst (λ (t : Ty). IfGives (Is m.program t) (as_type m.program target at (number_of v))) (same_type_equal target ty is.0)
      (cast_typed m.program source target at (number_of v) is.1))
  evaluate_typed m locals s typed (Convert source target at operand) ty is =
      let is = three (same_type target ty) (converts source target) (is_expr m.program locals source operand) is in
      after_gives (Is m.program source) (Is m.program ty) _ _ (evaluate_typed m locals s typed operand source is.2) (λ v h.
      subst (λ (t : Ty). IfGives (Is m.program t) (converted m.program source target at v)) (same_type_equal target ty is.0)
      (converted_typed m.program source target at v is.1 h))

  addends_typed : (m : Meaning) (locals : List Ty) (s : State) (rest : Addends) (own ty : Ty) (v : Value) → same_type own ty ≡ true → is_integer m.program ty ≡ true → has_type m.program ty v ≡ true
      → IfGives (Is m.program ty) (evaluate_addends m s own v rest)
  addends_typed m locals s no_addend own ty v same i h = h
  addends_typed m locals s (addend operator at operand rest) own ty v same i h =
      after_any (Is m.program ty) (evaluate m s operand) _ (λ w. after_gives (Is m.program ty) (Is m.program ty) _ _ (range_as m.program own ty at _ same i) (λ u g. addends_typed m locals s rest own ty u same i g))

  factors_typed : (m : Meaning) (locals : List Ty) (s : State) (rest : Factors) (own ty : Ty) (v : Value) → same_type own ty ≡ true → is_integer m.program ty ≡ true → has_type m.program ty v ≡ true
      → IfGives (Is m.program ty) (evaluate_factors m s own v rest)
  factors_typed m locals s no_factor own ty v same i h = h
  factors_typed m locals s (factor operator at operand rest) own ty v same i h =
      after_any (Is m.program ty) (evaluate m s operand) _ (λ w. after_gives (Is m.program ty) (Is m.program ty) _ _ (multiplied_typed m.program operator own ty at _ _ same i) (λ u g. factors_typed m locals s rest own ty u same i g))

  junction_typed : (m : Meaning) (locals : List Ty) (s : State) → AreTyped m.program locals s → (junction : JunctionKind) (rest : Members) (ty : Ty) (v : Value) → same_type ty types.Bool ≡ true
      → are_members m.program locals rest ≡ true → has_type m.program types.Bool v ≡ true → IfGives (Is m.program ty) (evaluate_junction m s junction v rest)
  junction_typed m locals s typed junction no_member ty v same is h = subst (λ (t : Ty). has_type m.program t v ≡ true) (sym (same_type_equal ty types.Bool same)) h
  junction_typed m locals s typed junction (member at operand rest) ty v same is h =
      let is = both (is_expr m.program locals types.Bool operand) (are_members m.program locals rest) is in
      choice (IfGives (Is m.program ty)) (decides junction (truth_of v)) (Gives v) _ (subst (λ (t : Ty). has_type m.program t v ≡ true) (sym (same_type_equal ty types.Bool same)) h)
      (after_gives (Is m.program types.Bool) (Is m.program ty) _ _ (evaluate_typed m locals s typed operand types.Bool is.0) (λ w g. junction_typed m locals s typed junction rest ty w same is.1 g))

  implications_typed : (m : Meaning) (locals : List Ty) (s : State) → AreTyped m.program locals s → (rest : Members) (ty : Ty) (v : Value) → same_type ty types.Bool ≡ true
      → are_members m.program locals rest ≡ true → has_type m.program types.Bool v ≡ true → IfGives (Is m.program ty) (evaluate_implications m s v rest)
  implications_typed m locals s typed no_member ty v same is h = subst (λ (t : Ty). has_type m.program t v ≡ true) (sym (same_type_equal ty types.Bool same)) h
  implications_typed m locals s typed (member at operand rest) ty v same is h =
      let is = both (is_expr m.program locals types.Bool operand) (are_members m.program locals rest) is in
      choice (IfGives (Is m.program ty)) (truth_of v) _ (Gives (values.Truth true))
      (after_gives (Is m.program types.Bool) (Is m.program ty) _ _ (evaluate_typed m locals s typed operand types.Bool is.0) (λ w g. implications_typed m locals s typed rest ty w same is.1 g))
      (truth_typed m.program ty true same)

  equivalences_typed : (m : Meaning) (locals : List Ty) (s : State) (rest : Members) (ty : Ty) (v : Value) → same_type ty types.Bool ≡ true → has_type m.program types.Bool v ≡ true
      → IfGives (Is m.program ty) (evaluate_equivalences m s v rest)
  equivalences_typed m locals s no_member ty v same h = subst (λ (t : Ty). has_type m.program t v ≡ true) (sym (same_type_equal ty types.Bool same)) h
  equivalences_typed m locals s (member at operand rest) ty v same h = after_any (Is m.program ty) (evaluate m s operand) _ (λ w. equivalences_typed m locals s rest ty (values.Truth (same_truth (truth_of v) (truth_of w))) same refl)

  links_typed : (m : Meaning) (locals : List Ty) (s : State) (rest : Links) (ty : Ty) (v : Value) → same_type ty types.Bool ≡ true → IfGives (Is m.program ty) (evaluate_links m s v rest)
  links_typed m locals s no_link ty v same = truth_typed m.program ty true same
  links_typed m locals s (link comparison at operand rest) ty v same =
      after_any (Is m.program ty) (evaluate m s operand) _ (λ w. choice (IfGives (Is m.program ty)) (compare comparison v w) _ _ (links_typed m locals s rest ty w same) (truth_typed m.program ty false same))
