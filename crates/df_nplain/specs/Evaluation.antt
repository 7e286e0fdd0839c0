-- Evaluation of expressions without ghosts.
use Rattle.std.specs.Prelude.{ℤ, pos, neg_ℤ, ◌*ℤ◌, int_le, int_lt, Bool, true, false, not, ◌&&◌, if◌then◌else◌, Option, None, Some}
use Rattle.std.specs.Ordering.{int_eq}
use Rattle.std.specs.Int.{int_div_euclid, int_rem_euclid}
use Rattle.df_lang.specs.declared.expr.AddendOperator.{AddendOperator}
use Rattle.df_lang.specs.declared.expr.FactorOperator.{FactorOperator}
use Rattle.df_lang.specs.declared.expr.FactorOperator.TheVariants as factors
use Rattle.df_lang.specs.declared.expr.Junction.{Junction as JunctionKind}
use Rattle.df_lang.specs.declared.expr.Comparison.{Comparison}
use Rattle.df_lang.specs.declared.expr.Comparison.TheVariants as comparisons
use Rattle.df_meaning.specs.Value.{Value, same_truth, same_value}
use Rattle.df_meaning.specs.Value as values
use Rattle.df_meaning.specs.Evaluation.{code_of, summed, decides}
use Rattle.df_nplain.specs.Kind.{Range, Between, Unbounded, Kind}
use Rattle.df_nplain.specs.Kind as kinds
use Rattle.df_nplain.specs.Expr.{Expr, Number, Truth, Character, Local, Negate, Not, Sum, Product, Junction, Implies, Iff, Chain, As, Addends, no_addend, addend, Factors, no_factor, factor, Members, no_member, member, Links, no_link, link}
use Rattle.df_nplain.specs.Outcome.{Fault, Outcome, Gives, Wrong, Stuck, after}
use Rattle.df_nplain.specs.Outcome as faults
use Rattle.df_nplain.specs.State.{State, value_at}
use Rattle.df_nplain.specs.Meaning.{Meaning}

-- ---- What a value is: a value of another kind is none that is asked for.

abbrev pub number_in : Value → Outcome ℤ
number_in (values.Number n) = Gives n
number_in v = Stuck

abbrev pub truth_in : Value → Outcome Bool
truth_in (values.Truth b) = Gives b
truth_in v = Stuck

-- the number of a value of the kind: its own, or the code of a character
abbrev pub number_from : Kind → Value → Outcome ℤ
number_from (kinds.Number range) (values.Number n) = Gives n
number_from kinds.Character (values.Character code) = Gives (pos code)
number_from kind v = Stuck

abbrev pub of_kind : Kind → Value → Outcome Value
of_kind (kinds.Number range) (values.Number n) = Gives (values.Number n)
of_kind kinds.Truth (values.Truth b) = Gives (values.Truth b)
of_kind kinds.Character (values.Character code) = Gives (values.Character code)
of_kind kind v = Stuck

-- ---- Operators.

-- the number, which must lie in the range
abbrev pub in_range : Range → ℤ → Outcome Value
in_range (Between low high) n = if (int_le low n && int_le n high) then Gives (values.Number n) else Wrong faults.Range
in_range Unbounded n = Gives (values.Number n)

-- the number as a value of the kind, which it must be; a truth is none
abbrev pub as_kind : Kind → ℤ → Outcome Value
as_kind (kinds.Number range) n = in_range range n
as_kind kinds.Truth n = Wrong faults.Cast
as_kind kinds.Character n = if (int_le (pos 0) n && int_le n (pos 127)) then Gives (values.Character (code_of n)) else Wrong faults.Cast

abbrev pub added : AddendOperator → Range → Value → Value → Outcome Value
added operator range v w = after (number_in v) (λ a. after (number_in w) (λ b. in_range range (summed operator a b)))

-- division and its remainder are Euclidean
abbrev pub product : FactorOperator → Range → ℤ → ℤ → Outcome Value
product factors.Times range a b = in_range range (a *ℤ b)
product factors.Divide range a b = if int_eq b (pos 0) then Wrong faults.Divisor else in_range range (int_div_euclid a b)
product factors.Modulo range a b = if int_eq b (pos 0) then Wrong faults.Divisor else in_range range (int_rem_euclid a b)

abbrev pub multiplied : FactorOperator → Range → Value → Value → Outcome Value
multiplied operator range v w = after (number_in v) (λ a. after (number_in w) (λ b. product operator range a b))

abbrev pub equivalent : Value → Value → Outcome Value
equivalent v w = after (truth_in v) (λ a. after (truth_in w) (λ b. Gives (values.Truth (same_truth a b))))

-- numbers by the test, and characters by that of their codes
abbrev pub ordered : (ℤ → ℤ → Bool) → Value → Value → Outcome Bool
ordered test (values.Number a) (values.Number b) = Gives (test a b)
ordered test (values.Character a) (values.Character b) = Gives (test (pos a) (pos b))
ordered test v w = Stuck

-- two neighbours of a chain compare so
abbrev pub compared : Comparison → Value → Value → Outcome Bool
compared comparisons.Equal v w = Gives (same_value v w)
compared comparisons.NotEqual v w = Gives (not (same_value v w))
compared comparisons.Less v w = ordered int_lt v w
compared comparisons.AtMost v w = ordered int_le v w
compared comparisons.Greater v w = ordered int_lt w v
compared comparisons.AtLeast v w = ordered int_le w v

-- ---- Expressions.

-- a local without a value has none to give
abbrev pub value_of_local : Option Value → Outcome Value
value_of_local None = Stuck
value_of_local (Some value) = Gives value

abbrev mutual
  pub evaluate : Meaning → State → Expr → Outcome Value
  evaluate m s (Number value) = Gives (values.Number value)
  evaluate m s (Truth value) = Gives (values.Truth value)
  evaluate m s (Character code) = Gives (values.Character code)
  evaluate m s (Local local) = value_of_local (value_at s local)
  evaluate m s (Negate range operand) = after (evaluate m s operand) (λ v. after (number_in v) (λ n. in_range range (neg_ℤ n)))
  evaluate m s (Not operand) = after (evaluate m s operand) (λ v. after (truth_in v) (λ b. Gives (values.Truth (not b))))
  evaluate m s (Sum range first rest) = after (evaluate m s first) (λ v. evaluate_addends m s range v rest)
  evaluate m s (Product range first rest) = after (evaluate m s first) (λ v. evaluate_factors m s range v rest)
  evaluate m s (Junction junction first rest) = after (evaluate m s first) (λ v. evaluate_junction m s junction v rest)
  evaluate m s (Implies first rest) = after (evaluate m s first) (λ v. evaluate_implications m s v rest)
  evaluate m s (Iff first rest) = after (evaluate m s first) (λ v. evaluate_equivalences m s v rest)
  evaluate m s (Chain first rest) = after (evaluate m s first) (λ v. evaluate_links m s v rest)
  evaluate m s (As source target operand) = after (evaluate m s operand) (λ v. after (number_from source v) (as_kind target))

  -- what stands behind a value, from the left
  pub evaluate_addends : Meaning → State → Range → Value → Addends → Outcome Value
  evaluate_addends m s range v no_addend = Gives v
  evaluate_addends m s range v (addend operator operand rest) =
      after (evaluate m s operand) (λ w.
      after (added operator range v w) (λ u.
      evaluate_addends m s range u rest))

  pub evaluate_factors : Meaning → State → Range → Value → Factors → Outcome Value
  evaluate_factors m s range v no_factor = Gives v
  evaluate_factors m s range v (factor operator operand rest) =
      after (evaluate m s operand) (λ w.
      after (multiplied operator range v w) (λ u.
      evaluate_factors m s range u rest))

  -- the first member that decides it is the last one that is evaluated
  pub evaluate_junction : Meaning → State → JunctionKind → Value → Members → Outcome Value
  evaluate_junction m s junction v no_member = Gives v
  evaluate_junction m s junction v (member operand rest) =
      after (truth_in v) (λ b. if decides junction b then Gives v else after (evaluate m s operand) (λ w. evaluate_junction m s junction w rest))

  -- what stands on the right of a true member is the value
  pub evaluate_implications : Meaning → State → Value → Members → Outcome Value
  evaluate_implications m s v no_member = Gives v
  evaluate_implications m s v (member operand rest) =
      after (truth_in v) (λ b. if b then after (evaluate m s operand) (λ w. evaluate_implications m s w rest) else Gives (values.Truth true))

  pub evaluate_equivalences : Meaning → State → Value → Members → Outcome Value
  evaluate_equivalences m s v no_member = Gives v
  evaluate_equivalences m s v (member operand rest) =
      after (evaluate m s operand) (λ w. after (equivalent v w) (λ u. evaluate_equivalences m s u rest))

  -- each member is evaluated once, and the first false neighbour ends the chain
  pub evaluate_links : Meaning → State → Value → Links → Outcome Value
  evaluate_links m s v no_link = Gives (values.Truth true)
  evaluate_links m s v (link comparison operand rest) =
      after (evaluate m s operand) (λ w. after (compared comparison v w) (λ b. if b then evaluate_links m s w rest else Gives (values.Truth false)))
