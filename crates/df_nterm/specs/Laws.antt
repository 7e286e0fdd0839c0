-- What terms of expressions have to do with their values.
use Rattle.std.specs.Prelude.{◌≡◌, ℕ, true, List, [], ◌∷◌, Some, if◌then◌else◌, map, slice_get}
use Rattle.std.specs.List.{AllByRecursion, list_all, flat_map}
use Rattle.df_lang.specs.declared.ty.Ty.{Ty}
use Rattle.df_lang.specs.Expr.{Expr}
use Rattle.df_lang.specs.Stmt.{Measure}
use Rattle.df_lang.specs.Typing.{is_expr}
use Rattle.df_lang.specs.Assignment.{Use, reads}
use Rattle.df_meaning.specs.Value.{Value, Truth}
use Rattle.df_meaning.specs.Outcome.{Outcome, Gives, Wrong}
use Rattle.df_meaning.specs.State.{State}
use Rattle.df_meaning.specs.Meaning.{Meaning}
use Rattle.df_meaning.specs.Evaluation.{evaluate}
use Rattle.df_meaning.specs.Modular.{measure_values}
use Rattle.df_meaning.specs.Order as order
use Rattle.df_nterm.specs.Term.{sort_of_type}
use Rattle.df_nterm.specs.Meaning.{Interpretation, has_sort, value, truth}
use Rattle.df_nterm.specs.Meaning as meanings
use Rattle.df_nterm.specs.Expressions.{Environment, Condition, term_of, conditions_of}
use Rattle.df_nterm.specs.Measuring.{Measured, measured, conditions_of_measure, are_below}

-- a local that is read has a value of the sort of its type, which is that of its term
pub record Agrees (i : Interpretation) (locals : List Ty) (env : Environment) (s : State) (local : ℕ) : Type 0 where
  pub value : Value
  pub read : s.locals local ≡ Some value
  pub sorted : (ty : Ty) → slice_get locals local ≡ Some ty → has_sort (sort_of_type ty) value ≡ true
  pub term : meanings.value i (env local) ≡ value

abbrev pub AgreesOn : Interpretation → List Ty → Environment → State → List Use → Type 0
AgreesOn i locals env s uses = AllByRecursion (λ (one : Use). Agrees i locals env s one.local) uses

-- the first condition that is false tells where evaluation is wrong; where all are true it comes to this
abbrev pub told : {A : Type 0} → Interpretation → List Condition → Outcome A → Outcome A
told i [] o = o
told i (c ∷ others) o = if truth i c.formula then told i others o else Wrong c.pos c.kind

-- Evaluation of a well-typed expression is what its conditions and its term say. So it has a value exactly where its
-- conditions are true, the value is that of its term, and the first condition that is false has the place and the kind
-- of what is wrong.
abbrev pub EvaluationIsAnswered : Type 0
EvaluationIsAnswered = (m : Meaning) (i : Interpretation) (locals : List Ty) (env : Environment) (s : State) (ty : Ty) (e : Expr)
    → i.program ≡ m.program → is_expr m.program locals ty e ≡ true → AgreesOn i locals env s (reads e)
    → evaluate m s e ≡ told i (conditions_of env e) (Gives (value i (term_of env e)))

-- each has a value of its sort
abbrev pub AreMeasured : Interpretation → List Measured → Type 0
AreMeasured i members = AllByRecursion (λ (one : Measured). has_sort (sort_of_type one.ty) (value i one.value) ≡ true) members

-- The first condition that is false tells where the evaluation of a measure is wrong; where all are true its members
-- have the values of their terms, each of the sort of its type.
abbrev pub MeasuresAreAnswered : Type 0
MeasuresAreAnswered = (m : Meaning) (i : Interpretation) (locals : List Ty) (env : Environment) (s : State) (measures : List Measure)
    → i.program ≡ m.program → list_all (λ (measure : Measure). is_expr m.program locals measure.ty measure.value) measures ≡ true
    → AgreesOn i locals env s (flat_map (λ (measure : Measure). reads measure.value) measures)
    → (measure_values m s measures ≡ told i (conditions_of_measure env measures) (Gives (map (λ (one : Measured). value i one.value) (measured env measures)))) × AreMeasured i (measured env measures)

-- the formula is the order on the values
abbrev pub BelowIsOrder : Type 0
BelowIsOrder = (i : Interpretation) (now before : List Measured) → AreMeasured i now → AreMeasured i before
    → value i (are_below now before) ≡ Truth (order.are_below (map (λ (one : Measured). value i one.value) now) (map (λ (one : Measured). value i one.value) before))
