-- Expressions made of literals alone elaborate, where each literal has its value.
use Rattle.std.proofs.Common.{◌≡◌, ◌≢◌, ℤ, Bool, true, false, ◌&&◌, List, [], ◌∷◌, Option, Some, None, refl, sym, ap, ◌∙◌, subst}
use Rattle.std.proofs.lemmas.Bool.{and_parts}
use Rattle.df_lang.specs.declared.ty.Ty.{Ty}
use Rattle.df_lang.specs.Expr as typed
use Rattle.df_ntree.specs.declared.tree.Literal.{Literal}
use Rattle.df_ntree.specs.declared.expr.UnaryOperator.TheVariants as unary
use Rattle.df_ntree.specs.declared.expr.Group.{Group}
use Rattle.df_ntree.specs.declared.expr.Group.TheVariants as groups
use Rattle.df_ntree.specs.Expr.{Expr, Number, Character, Truth, Name, Parentheses, Call, Unary, Cast, Operations, Leading, Members, end, more, Arguments, no_more, argument}
use Rattle.df_ntree.specs.ExprSpelling.{first_group}
use Rattle.df_ntyping.specs.Types.{counted, is_integer, literal_type}
use Rattle.df_ntyping.specs.Environment.{Environment}
use Rattle.df_ntyping.specs.ExprTypes.{value_of, is_arithmetic, is_open, are_open, own_types, counted_of, first_or, wanted_first, wanted_behind, expected_inside}
use Rattle.df_ntyping.specs.ExprElaboration.{Part, Converts, IsRun, Elaborates, AreOperands}
use Rattle.df_ntyping.proofs.Types.{counted_twice, counted_integer, none_open, not_all_open}
use Rattle.df_ntyping.specs.mirror.Literals.{sum_or_product, opened_by, parts_by}
use Rattle.df_ntyping.proofs.MeetingTypes.{literal_integer, literal_of_counted, converts_same}

-- ---- each literal has its value

abbrev mutual
  pub Holds : (Literal → ℤ) → Expr → Type 0
  Holds value (Number literal) = value literal ≡ value_of literal
  Holds value (Character code at) = Unit {0}
  Holds value (Truth b at) = Unit {0}
  Holds value (Name ident) = Unit {0}
  Holds value (Parentheses at inner) = Holds value inner
  Holds value (Call callee arguments) = Holds value callee × HoldArguments value arguments
  Holds value (Unary operator at operand) = Holds value operand
  Holds value (Cast operand all) = Holds value operand
  Holds value (Operations first rest) = Holds value first × HoldAll value rest
  Holds value (Leading operations) = HoldAll value operations

  pub HoldAll : (Literal → ℤ) → Members → Type 0
  HoldAll value end = Unit {0}
  HoldAll value (more operator at operand rest) = Holds value operand × HoldAll value rest

  pub HoldArguments : (Literal → ℤ) → Arguments → Type 0
  HoldArguments value no_more = Unit {0}
  HoldArguments value (argument e rest) = Holds value e × HoldArguments value rest

-- ---- the type

pub opened_ty : (value : Literal → ℤ) (ty : Ty) (e : Expr) → counted ty ≡ ty → (opened_by value ty e).ty ≡ ty
opened_ty value ty (Number literal) p = refl
opened_ty value ty (Parentheses at inner) p = opened_ty value ty inner p
opened_ty value ty (Unary operator at operand) p = p
opened_ty value ty (Operations first rest) p = p
opened_ty value ty (Character code at) p = refl
opened_ty value ty (Truth b at) p = refl
opened_ty value ty (Name ident) p = refl
opened_ty value ty (Call callee arguments) p = refl
opened_ty value ty (Cast operand all) p = refl
opened_ty value ty (Leading operations) p = refl

pub wanted_open : (env : Environment) (expected : Option Ty) (group : Option Group) (first : Expr) (rest : Members) → is_arithmetic group ≡ true → is_open first ≡ true → are_open rest ≡ true
    → wanted_first env (expected_inside group expected) first rest ≡ counted_of expected
wanted_open env expected group first rest p q r = rw (p, q, none_open env rest r) refl

open_run : (group : Option Group) (rest : Members) (of : Ty) (first : typed.Expr) (parts : List Part) → is_arithmetic group ≡ true → is_integer of ≡ true → IsRun group rest of first parts of (sum_or_product group of first parts)
open_run None rest of first parts p q = absurd cc
open_run (Some groups.Sum) rest of first parts p q = (q, refl, refl)
open_run (Some groups.Product) rest of first parts p q = (q, refl, refl)
open_run (Some group) rest of first parts p q = absurd cc

behind_open : (env : Environment) (wanted : Option Ty) (operand : Expr) → is_open operand ≡ true → wanted_behind env wanted operand ≡ wanted
behind_open env wanted operand p = rw p refl

-- one that was typed where its counted type is expected
operand_so : (value : Literal → ℤ) (env : Environment) (expected : Option Ty) (e : Expr)
    → Elaborates env (counted_of expected) e (opened_by value (literal_type (counted_of expected)) e).ty (opened_by value (literal_type (counted_of expected)) e).expr
    → Elaborates env (counted_of expected) e (counted (literal_type expected)) (opened_by value (counted (literal_type expected)) e).expr
operand_so value env expected e h =
    let of = counted (literal_type expected) in
    let there : Elaborates env (counted_of expected) e (opened_by value of e).ty (opened_by value of e).expr =
    subst (λ (ty : Ty). Elaborates env (counted_of expected) e (opened_by value ty e).ty (opened_by value ty e).expr) (literal_of_counted expected) h in
    subst (λ (ty : Ty). Elaborates env (counted_of expected) e ty (opened_by value of e).expr) (opened_ty value of e (counted_twice (literal_type expected))) there

counted_literal_integer : (expected : Option Ty) → is_integer (counted (literal_type expected)) ≡ true
counted_literal_integer expected = counted_integer (literal_type expected) ∙ literal_integer expected

mutual
  pub opened_typed : (value : Literal → ℤ) (env : Environment) (expected : Option Ty) (e : Expr) → is_open e ≡ true → Holds value e
      → Elaborates env expected e (opened_by value (literal_type expected) e).ty (opened_by value (literal_type expected) e).expr
  opened_typed value env expected (Number literal) o v = (refl, ap (λ n. typed.Number (literal_type expected) n literal.pos) v)
  opened_typed value env expected (Character code at) o v = absurd cc
  opened_typed value env expected (Truth b at) o v = absurd cc
  opened_typed value env expected (Name ident) o v = absurd cc
  opened_typed value env expected (Parentheses at inner) o v = opened_typed value env expected inner o v
  opened_typed value env expected (Call callee arguments) o v = absurd cc
  opened_typed value env expected (Unary unary.Negate at operand) o v =
      let of = counted (literal_type expected) in
      let inner = (opened_by value of operand).expr in
      let twice = counted_twice (literal_type expected) in (
        of,
        inner,
        inner,
        operand_so value env expected operand (opened_typed value env (counted_of expected) operand o v),
        counted_literal_integer expected,
        converts_same of (counted of) operand inner (sym twice),
        sym twice,
        refl,
      )
  opened_typed value env expected (Unary unary.Not at operand) o v = absurd cc
  opened_typed value env expected (Cast operand all) o v = absurd cc
  opened_typed value env expected (Operations first rest) o v =
      let group = first_group rest in
      let of = counted (literal_type expected) in
      let inner = (opened_by value of first).expr in
      let outer = and_parts (is_arithmetic group && is_open first) (are_open rest) o in
      let both = and_parts (is_arithmetic group) (is_open first) outer.0 in
      let wanted : wanted_first env (expected_inside group expected) first rest ≡ counted_of expected = wanted_open env expected group first rest both.0 both.1 outer.1 in
      let head = operand_so value env expected first (opened_typed value env (counted_of expected) first both.1 v.0) in
      let parts = opened_operands value env expected rest outer.1 v.1 in
      rw (wanted, behind_open env (counted_of expected) first both.1)
      (of, of, inner, inner, parts_by value of rest, head, counted_twice (literal_type expected), converts_same of of first inner refl, parts, open_run group rest of inner (parts_by value of rest) both.0 (counted_literal_integer expected))
  opened_typed value env expected (Leading operations) o v = absurd cc

  opened_operands : (value : Literal → ℤ) (env : Environment) (expected : Option Ty) (rest : Members) → are_open rest ≡ true → HoldAll value rest
      → AreOperands env (counted_of expected) (counted (literal_type expected)) rest (parts_by value (counted (literal_type expected)) rest)
  opened_operands value env expected end o v = refl
  opened_operands value env expected (more operator at operand rest) o v =
      let of = counted (literal_type expected) in
      let inner = (opened_by value of operand).expr in
      let both = and_parts (is_open operand) (are_open rest) o in
      rw (behind_open env (counted_of expected) operand both.0) (
        of,
        inner,
        inner,
        parts_by value of rest,
        operand_so value env expected operand (opened_typed value env (counted_of expected) operand both.0 v.0),
        counted_twice (literal_type expected),
        converts_same of of operand inner refl,
        opened_operands value env expected rest both.1 v.1,
        refl,
      )

-- ---- what is not made of literals alone is typed whatever is expected

first_or_some : (one other : Option Ty) (all : List (Option Ty)) → all ≢ [] → first_or one all ≡ first_or other all
first_or_some one other [] p = absurd (p refl)
first_or_some one other (ty ∷ all) p = refl

wanted_same : (env : Environment) (expected other : Option Ty) (group : Option Group) (first : Expr) (rest : Members) (a b c : Bool) → is_arithmetic group ≡ a → is_open first ≡ b → are_open rest ≡ c → (a && b && c) ≡ false
    → wanted_first env (expected_inside group expected) first rest ≡ wanted_first env (expected_inside group other) first rest
wanted_same env expected other group first rest false b c p q r h = rw p refl
wanted_same env expected other group first rest true false c p q r h = rw q refl
wanted_same env expected other group first rest true true false p q r h =
    rw (p, q) (first_or_some (counted_of expected) (counted_of other) (own_types env rest) (not_all_open env rest r))
wanted_same env expected other group first rest true true true p q r h = absurd cc

-- a run whose first operand is expected to have a type
abbrev pub RunAt : Environment → Expr → Members → Ty → typed.Expr → Option Ty → Type 0
RunAt env first rest ty t wanted =
    (of source : Ty) × (inner one : typed.Expr) × (parts : List Part)
    × Elaborates env wanted first source inner × (counted source ≡ of) × Converts source of first inner one
    × AreOperands env (wanted_behind env wanted first) of rest parts × IsRun (first_group rest) rest of one parts ty t

pub any_expected : (env : Environment) (expected other : Option Ty) (e : Expr) (ty : Ty) (t : typed.Expr) → is_open e ≡ false → Elaborates env expected e ty t → Elaborates env other e ty t
any_expected env expected other (Number literal) ty t o h = absurd cc
any_expected env expected other (Character code at) ty t o h = h
any_expected env expected other (Truth b at) ty t o h = h
any_expected env expected other (Name ident) ty t o h = h
any_expected env expected other (Parentheses at inner) ty t o h = any_expected env expected other inner ty t o h
any_expected env expected other (Call callee arguments) ty t o h = h
any_expected env expected other (Unary unary.Negate at operand) ty t o (source, inner, one, h, integer, conversion, p, q) =
    (source, inner, one, any_expected env (counted_of expected) (counted_of other) operand source inner o h, integer, conversion, p, q)
any_expected env expected other (Unary unary.Not at operand) ty t o h = h
any_expected env expected other (Cast operand all) ty t o h = h
any_expected env expected other (Operations first rest) ty t o h =
    subst (RunAt env first rest ty t) (wanted_same env expected other (first_group rest) first rest (is_arithmetic (first_group rest)) (is_open first) (are_open rest) refl refl refl o) h
any_expected env expected other (Leading end) ty t o h = h
any_expected env expected other (Leading (more operator at operand rest)) ty t o h = h
