-- Expressions are never too deep: no call stands in them.
use Rattle.std.proofs.Common.{◌≡◌, ℤ, neg_ℤ, Bool, true, false, List, [], ◌∷◌, Option, Some, None, if◌then◌else◌, subst}
use Rattle.std.specs.Ordering.{int_eq}
use Rattle.df_base.specs.declared.pos.Pos.{Pos}
use Rattle.df_lang.specs.declared.ty.Ty.{Ty}
use Rattle.df_lang.specs.declared.ty.Ty.TheVariants as types
use Rattle.df_lang.specs.declared.expr.FactorOperator.{FactorOperator}
use Rattle.df_lang.specs.declared.expr.FactorOperator.TheVariants as factors
use Rattle.df_lang.specs.declared.expr.Junction.{Junction as JunctionKind}
use Rattle.df_lang.specs.Expr.{Expr, Number, Truth, Character, Local, Negate, Not, Sum, Product, Junction, Implies, Iff, Chain, As, Convert, Addends, no_addend, addend, Factors, no_factor, factor, Members, no_member, member, Links, no_link, link}
use Rattle.df_lang.specs.Stmt.{Conversion}
use Rattle.df_lang.specs.Program.{Program}
use Rattle.df_meaning.specs.declared.kind.Kind.TheVariants as kinds
use Rattle.df_meaning.specs.Value.{Value, number_of, truth_of, same_truth}
use Rattle.df_meaning.specs.Value as values
use Rattle.df_meaning.specs.Types.{is_in}
use Rattle.df_meaning.specs.Outcome.{Outcome, Gives, Wrong, TooDeep, NoChoice, Dismissed, after}
use Rattle.df_meaning.specs.State.{State, value_at}
use Rattle.df_meaning.specs.Meaning.{Meaning}
use Rattle.df_meaning.specs.Evaluation.{in_range, value_in, as_type, converted, multiplied, compare, decides, value_of_local, evaluate, evaluate_addends, evaluate_factors, evaluate_junction, evaluate_implications, evaluate_equivalences, evaluate_links}
use Rattle.df_meaning.specs.Execution.{evaluate_all, convert_all}

-- it is not too deep
abbrev pub IsShallow : {A : Type 0} → Outcome A → Type 0
IsShallow (Gives a) = Unit {0}
IsShallow (Wrong pos kind) = Unit {0}
IsShallow TooDeep = ⊥
IsShallow NoChoice = Unit {0}
IsShallow Dismissed = Unit {0}

pub not_deep : {A : Type 0} (o : Outcome A) → IsShallow o → o ≡ TooDeep → ⊥
not_deep {A} o h e = let deep : IsShallow {A = A} TooDeep = subst (λ x. IsShallow x) e h in deep

pub after_shallow : {A B : Type 0} (o : Outcome A) (f : A → Outcome B) → IsShallow o → ((a : A) → IsShallow (f a)) → IsShallow (after o f)
after_shallow (Gives a) f h k = k a
after_shallow (Wrong pos kind) f h k = tt
after_shallow TooDeep f h k = h
after_shallow NoChoice f h k = tt
after_shallow Dismissed f h k = tt

pub choice_shallow : {A : Type 0} (b : Bool) (x y : Outcome A) → IsShallow x → IsShallow y → IsShallow (if b then x else y)
choice_shallow true x y h k = h
choice_shallow false x y h k = k

range_shallow : (p : Program) (ty : Ty) (at : Pos) (z : ℤ) → IsShallow (in_range p ty at z)
range_shallow p ty at z = choice_shallow (is_in p ty z) (Gives (values.Number z)) (Wrong at kinds.Range) tt tt

cast_shallow : (p : Program) (ty : Ty) (at : Pos) (z : ℤ) → IsShallow (as_type p ty at z)
cast_shallow p ty at z = choice_shallow (is_in p ty z) (Gives (value_in ty z)) (Wrong at kinds.Range) tt tt

converted_shallow : (p : Program) (source target : Ty) (at : Pos) (v : Value) → IsShallow (converted p source target at v)
converted_shallow p (types.Newtype a) target at v = tt
converted_shallow p types.Int (types.Newtype a) at v = tt
converted_shallow p types.Int types.Int at v = tt
converted_shallow p types.Int types.Nat at v = range_shallow p types.Nat at (number_of v)
converted_shallow p types.Int types.Bool at v = tt
converted_shallow p types.Int types.Char at v = tt
converted_shallow p types.Nat target at v = tt
converted_shallow p types.Bool target at v = tt
converted_shallow p types.Char target at v = tt

multiplied_shallow : (p : Program) (operator : FactorOperator) (ty : Ty) (at : Pos) (a b : ℤ) → IsShallow (multiplied p operator ty at a b)
multiplied_shallow p factors.Times ty at a b = range_shallow p ty at _
multiplied_shallow p factors.Divide ty at a b = choice_shallow (int_eq b _) (Wrong at kinds.Divisor) _ tt (range_shallow p ty at _)
multiplied_shallow p factors.Modulo ty at a b = choice_shallow (int_eq b _) (Wrong at kinds.Divisor) _ tt (range_shallow p ty at _)

local_shallow : (o : Option Value) → IsShallow (value_of_local o)
local_shallow None = tt
local_shallow (Some v) = tt

mutual
  pub evaluate_shallow : (m : Meaning) (s : State) (e : Expr) → IsShallow (evaluate m s e)
  evaluate_shallow m s (Number ty value at) = range_shallow m.program ty at value
  evaluate_shallow m s (Truth value at) = tt
  evaluate_shallow m s (Character code at) = tt
  evaluate_shallow m s (Local local name at) = local_shallow (value_at s local)
  evaluate_shallow m s (Negate ty at operand) = after_shallow (evaluate m s operand) _ (evaluate_shallow m s operand) (λ v. range_shallow m.program ty at (neg_ℤ (number_of v)))
  evaluate_shallow m s (Not at operand) = after_shallow (evaluate m s operand) _ (evaluate_shallow m s operand) (λ v. tt)
  evaluate_shallow m s (Sum ty first rest) = after_shallow (evaluate m s first) _ (evaluate_shallow m s first) (λ v. addends_shallow m s ty v rest)
  evaluate_shallow m s (Product ty first rest) = after_shallow (evaluate m s first) _ (evaluate_shallow m s first) (λ v. factors_shallow m s ty v rest)
  evaluate_shallow m s (Junction junction first rest) = after_shallow (evaluate m s first) _ (evaluate_shallow m s first) (λ v. junction_shallow m s junction v rest)
  evaluate_shallow m s (Implies arrow first rest) = after_shallow (evaluate m s first) _ (evaluate_shallow m s first) (λ v. implications_shallow m s v rest)
  evaluate_shallow m s (Iff first rest) = after_shallow (evaluate m s first) _ (evaluate_shallow m s first) (λ v. equivalences_shallow m s v rest)
  evaluate_shallow m s (Chain ty first rest) = after_shallow (evaluate m s first) _ (evaluate_shallow m s first) (λ v. links_shallow m s v rest)
  evaluate_shallow m s (As source target at operand) = after_shallow (evaluate m s operand) _ (evaluate_shallow m s operand) (λ v. cast_shallow m.program target at (number_of v))
  evaluate_shallow m s (Convert source target at operand) = after_shallow (evaluate m s operand) _ (evaluate_shallow m s operand) (λ v. converted_shallow m.program source target at v)

  addends_shallow : (m : Meaning) (s : State) (ty : Ty) (v : Value) (rest : Addends) → IsShallow (evaluate_addends m s ty v rest)
  addends_shallow m s ty v no_addend = tt
  addends_shallow m s ty v (addend operator at operand rest) =
      after_shallow (evaluate m s operand) _ (evaluate_shallow m s operand) (λ w. after_shallow (in_range m.program ty at _) _ (range_shallow m.program ty at _) (λ u. addends_shallow m s ty u rest))

  factors_shallow : (m : Meaning) (s : State) (ty : Ty) (v : Value) (rest : Factors) → IsShallow (evaluate_factors m s ty v rest)
  factors_shallow m s ty v no_factor = tt
  factors_shallow m s ty v (factor operator at operand rest) =
      after_shallow (evaluate m s operand) _ (evaluate_shallow m s operand) (λ w. after_shallow (multiplied m.program operator ty at (number_of v) (number_of w)) _ (multiplied_shallow m.program operator ty at (number_of v) (number_of w)) (λ u. factors_shallow m s ty u rest))

  junction_shallow : (m : Meaning) (s : State) (junction : JunctionKind) (v : Value) (rest : Members) → IsShallow (evaluate_junction m s junction v rest)
  junction_shallow m s junction v no_member = tt
  junction_shallow m s junction v (member at operand rest) =
      choice_shallow (decides junction (truth_of v)) (Gives v) _ tt (after_shallow (evaluate m s operand) _ (evaluate_shallow m s operand) (λ w. junction_shallow m s junction w rest))

  implications_shallow : (m : Meaning) (s : State) (v : Value) (rest : Members) → IsShallow (evaluate_implications m s v rest)
  implications_shallow m s v no_member = tt
  implications_shallow m s v (member at operand rest) =
      choice_shallow (truth_of v) _ (Gives (values.Truth true)) (after_shallow (evaluate m s operand) _ (evaluate_shallow m s operand) (λ w. implications_shallow m s w rest)) tt

  equivalences_shallow : (m : Meaning) (s : State) (v : Value) (rest : Members) → IsShallow (evaluate_equivalences m s v rest)
  equivalences_shallow m s v no_member = tt
  equivalences_shallow m s v (member at operand rest) =
      after_shallow (evaluate m s operand) _ (evaluate_shallow m s operand) (λ w. equivalences_shallow m s (values.Truth (same_truth (truth_of v) (truth_of w))) rest)

  links_shallow : (m : Meaning) (s : State) (v : Value) (rest : Links) → IsShallow (evaluate_links m s v rest)
  links_shallow m s v no_link = tt
  links_shallow m s v (link comparison at operand rest) =
      after_shallow (evaluate m s operand) _ (evaluate_shallow m s operand) (λ w. choice_shallow (compare comparison v w) _ (Gives (values.Truth false)) (links_shallow m s w rest) tt)

pub all_shallow : (m : Meaning) (s : State) (es : List Expr) → IsShallow (evaluate_all m s es)
all_shallow m s [] = tt
all_shallow m s (e ∷ others) = after_shallow (evaluate m s e) _ (evaluate_shallow m s e) (λ v. after_shallow (evaluate_all m s others) _ (all_shallow m s others) (λ vs. tt))

pub conversions_shallow : (m : Meaning) (at : Pos) (cs : List Conversion) (vs : List Value) → IsShallow (convert_all m at cs vs)
conversions_shallow m at [] vs = tt
conversions_shallow m at (c ∷ cs) [] = tt
conversions_shallow m at (c ∷ cs) (v ∷ vs) =
    after_shallow (converted m.program c.source c.target at v) _ (converted_shallow m.program c.source c.target at v) (λ w. after_shallow (convert_all m at cs vs) _ (conversions_shallow m at cs vs) (λ ws. tt))
