-- Evaluation of expressions.
use Rattle.std.specs.Prelude.{ℕ, ℤ, pos, neg_ℤ, ◌+ℤ◌, ◌-ℤ◌, ◌*ℤ◌, int_le, int_lt, Bool, true, false, not, if◌then◌else◌, Option, None, Some}
use Rattle.std.specs.Ordering.{int_eq}
use Rattle.std.specs.Int.{int_div_euclid, int_rem_euclid}
use Rattle.df_base.specs.declared.pos.Pos.{Pos}
use Rattle.df_lang.specs.declared.ty.Ty.{Ty}
use Rattle.df_lang.specs.declared.ty.Ty.TheVariants as types
use Rattle.df_lang.specs.declared.expr.AddendOperator.{AddendOperator}
use Rattle.df_lang.specs.declared.expr.AddendOperator.TheVariants as addends
use Rattle.df_lang.specs.declared.expr.FactorOperator.{FactorOperator}
use Rattle.df_lang.specs.declared.expr.FactorOperator.TheVariants as factors
use Rattle.df_lang.specs.declared.expr.Junction.{Junction as JunctionKind}
use Rattle.df_lang.specs.declared.expr.Junction.TheVariants as junctions
use Rattle.df_lang.specs.declared.expr.Comparison.{Comparison}
use Rattle.df_lang.specs.declared.expr.Comparison.TheVariants as comparisons
use Rattle.df_lang.specs.Expr.{Expr, Number, Truth, Character, Local, Negate, Not, Sum, Product, Junction, Implies, Iff, Chain, As, Convert, Addends, no_addend, addend, Factors, no_factor, factor, Members, no_member, member, Links, no_link, link}
use Rattle.df_lang.specs.Program.{Program}
use Rattle.df_meaning.specs.declared.kind.Kind.TheVariants as kinds
use Rattle.df_meaning.specs.Value.{Value, number_of, truth_of, same_truth, same_value}
use Rattle.df_meaning.specs.Value as values
use Rattle.df_meaning.specs.Types.{is_in}
use Rattle.df_meaning.specs.Outcome.{Outcome, Gives, Wrong, Dismissed, after}
use Rattle.df_meaning.specs.State.{State, value_at}
use Rattle.df_meaning.specs.Meaning.{Meaning}

-- a literal and each result of arithmetic must be a value of its type
abbrev pub in_range : Program → Ty → Pos → ℤ → Outcome Value
in_range program ty at n = if is_in program ty n then Gives (values.Number n) else Wrong at kinds.Range

abbrev pub code_of : ℤ → ℕ
code_of (pos c) = c
code_of n = 0

-- the value of the number in the type: a character by its code, or the number
abbrev pub value_in : Ty → ℤ → Value
value_in types.Char n = values.Character (code_of n)
value_in ty n = values.Number n

-- the number must be one of the type
abbrev pub as_type : Program → Ty → Pos → ℤ → Outcome Value
as_type program ty at n = if is_in program ty n then Gives (value_in ty n) else Wrong at kinds.Range

-- a value at a place of another type: from `int` to `nat` it must be one
abbrev pub converted : Program → Ty → Ty → Pos → Value → Outcome Value
converted program types.Int types.Nat at value = in_range program types.Nat at (number_of value)
converted program source target at value = Gives value

abbrev pub summed : AddendOperator → ℤ → ℤ → ℤ
summed addends.Plus a b = a +ℤ b
summed addends.Minus a b = a -ℤ b

-- division and its remainder are Euclidean
abbrev pub multiplied : Program → FactorOperator → Ty → Pos → ℤ → ℤ → Outcome Value
multiplied program factors.Times ty at a b = in_range program ty at (a *ℤ b)
multiplied program factors.Divide ty at a b = if int_eq b (pos 0) then Wrong at kinds.Divisor else in_range program ty at (int_div_euclid a b)
multiplied program factors.Modulo ty at a b = if int_eq b (pos 0) then Wrong at kinds.Divisor else in_range program ty at (int_rem_euclid a b)

-- two neighbours of a chain compare so; characters by their codes
abbrev pub compare : Comparison → Value → Value → Bool
compare comparisons.Equal v w = same_value v w
compare comparisons.NotEqual v w = not (same_value v w)
compare comparisons.Less v w = int_lt (number_of v) (number_of w)
compare comparisons.AtMost v w = int_le (number_of v) (number_of w)
compare comparisons.Greater v w = int_lt (number_of w) (number_of v)
compare comparisons.AtLeast v w = int_le (number_of w) (number_of v)

-- the truth decides a junction
abbrev pub decides : JunctionKind → Bool → Bool
decides junctions.And b = not b
decides junctions.Or b = b

-- a local without a value has none to give: definite assignment keeps runs from reading it
abbrev pub value_of_local : Option Value → Outcome Value
value_of_local None = Dismissed
value_of_local (Some value) = Gives value

abbrev mutual
  pub evaluate : Meaning → State → Expr → Outcome Value
  evaluate m s (Number ty value at) = in_range m.program ty at value
  evaluate m s (Truth value at) = Gives (values.Truth value)
  evaluate m s (Character code at) = Gives (values.Character code)
  evaluate m s (Local local name at) = value_of_local (value_at s local)
  evaluate m s (Negate ty at operand) = after (evaluate m s operand) (λ v. in_range m.program ty at (neg_ℤ (number_of v)))
  evaluate m s (Not at operand) = after (evaluate m s operand) (λ v. Gives (values.Truth (not (truth_of v))))
  evaluate m s (Sum ty first rest) = after (evaluate m s first) (λ v. evaluate_addends m s ty v rest)
  evaluate m s (Product ty first rest) = after (evaluate m s first) (λ v. evaluate_factors m s ty v rest)
  evaluate m s (Junction junction first rest) = after (evaluate m s first) (λ v. evaluate_junction m s junction v rest)
  evaluate m s (Implies arrow first rest) = after (evaluate m s first) (λ v. evaluate_implications m s v rest)
  evaluate m s (Iff first rest) = after (evaluate m s first) (λ v. evaluate_equivalences m s v rest)
  evaluate m s (Chain ty first rest) = after (evaluate m s first) (λ v. evaluate_links m s v rest)
  evaluate m s (As source target at operand) = after (evaluate m s operand) (λ v. as_type m.program target at (number_of v))
  evaluate m s (Convert source target at operand) = after (evaluate m s operand) (converted m.program source target at)

  -- what stands behind a value, from the left
  pub evaluate_addends : Meaning → State → Ty → Value → Addends → Outcome Value
  evaluate_addends m s ty v no_addend = Gives v
  evaluate_addends m s ty v (addend operator at operand rest) =
      after (evaluate m s operand) (λ w.
      after (in_range m.program ty at (summed operator (number_of v) (number_of w))) (λ u.
      evaluate_addends m s ty u rest))

  pub evaluate_factors : Meaning → State → Ty → Value → Factors → Outcome Value
  evaluate_factors m s ty v no_factor = Gives v
  evaluate_factors m s ty v (factor operator at operand rest) =
      after (evaluate m s operand) (λ w.
      after (multiplied m.program operator ty at (number_of v) (number_of w)) (λ u.
      evaluate_factors m s ty u rest))

  -- the first member that decides it is the last one that is evaluated
  pub evaluate_junction : Meaning → State → JunctionKind → Value → Members → Outcome Value
  evaluate_junction m s junction v no_member = Gives v
  evaluate_junction m s junction v (member at operand rest) =
      if decides junction (truth_of v) then Gives v else after (evaluate m s operand) (λ w. evaluate_junction m s junction w rest)

  -- what stands on the right of a true member is the value
  pub evaluate_implications : Meaning → State → Value → Members → Outcome Value
  evaluate_implications m s v no_member = Gives v
  evaluate_implications m s v (member at operand rest) =
      if truth_of v then after (evaluate m s operand) (λ w. evaluate_implications m s w rest) else Gives (values.Truth true)

  pub evaluate_equivalences : Meaning → State → Value → Members → Outcome Value
  evaluate_equivalences m s v no_member = Gives v
  evaluate_equivalences m s v (member at operand rest) =
      after (evaluate m s operand) (λ w. evaluate_equivalences m s (values.Truth (same_truth (truth_of v) (truth_of w))) rest)

  -- each member is evaluated once, and the first false neighbour ends the chain
  pub evaluate_links : Meaning → State → Value → Links → Outcome Value
  evaluate_links m s v no_link = Gives (values.Truth true)
  evaluate_links m s v (link comparison at operand rest) =
      after (evaluate m s operand) (λ w. if compare comparison v w then evaluate_links m s w rest else Gives (values.Truth false))
