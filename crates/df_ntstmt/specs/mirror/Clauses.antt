-- The walk over clauses and printed operands: what private contracts cite.
use Rattle.std.specs.Prelude.{List, [], ◌∷◌, ◌++◌, Option, Some, None, Ok, Err}
use Rattle.df_lang.specs.Stmt as typed
use Rattle.df_ntree.specs.declared.file.ConditionKind.{ConditionKind}
use Rattle.df_ntree.specs.declared.file.ConditionKind.TheVariants as conditions
use Rattle.df_ntree.specs.Expr.{Expr}
use Rattle.df_ntree.specs.File.{Clause, Condition, Decreases, PrintOperand, Text, Value}
use Rattle.df_ntyping.specs.Environment.{Environment}
use Rattle.df_ntyping.specs.Places.{beginning_of}
use Rattle.df_ntyping.specs.Node.{Owner}
use Rattle.df_ntyping.specs.rules.Loops.{belongs}
use Rattle.df_ntyping.specs.Rule as rules
use Rattle.df_ntyping.specs.Wanted as wanteds
use Rattle.df_ntyping.specs.mirror.Parts.{Typed, or_start}
use Rattle.df_ntexpr.specs.Replies.{Reply}
use Rattle.df_ntstmt.specs.mirror.Steps.{and_then, broken, unless, typed_in}

-- ---- clauses by their kinds

pub record Clauses : Type 0 where
  pub preconditions : List typed.Clause
  pub postconditions : List typed.Clause
  pub invariants : List typed.Clause
  pub decreases : Option (List typed.Measure)

abbrev pub no_clauses : Clauses
no_clauses = record { preconditions = []; postconditions = []; invariants = []; decreases = None }

abbrev pub a_condition : ConditionKind → typed.Clause → Clauses
a_condition conditions.Requires clause = record { preconditions = clause ∷ []; postconditions = []; invariants = []; decreases = None }
a_condition conditions.Ensures clause = record { preconditions = []; postconditions = clause ∷ []; invariants = []; decreases = None }
a_condition conditions.Invariant clause = record { preconditions = []; postconditions = []; invariants = clause ∷ []; decreases = None }

abbrev pub a_measure : List typed.Measure → Clauses
a_measure measures = record { preconditions = []; postconditions = []; invariants = []; decreases = Some measures }

-- all that `decreases` gives
abbrev pub both_measures : Option (List typed.Measure) → Option (List typed.Measure) → Option (List typed.Measure)
both_measures None others = others
both_measures (Some measures) None = Some measures
both_measures (Some measures) (Some others) = Some (measures ++ others)

abbrev pub both : Clauses → Clauses → Clauses
both one other = record {
  preconditions = one.preconditions ++ other.preconditions;
  postconditions = one.postconditions ++ other.postconditions;
  invariants = one.invariants ++ other.invariants;
  decreases = both_measures one.decreases other.decreases;
}

-- ---- the walk

abbrev pub measures_in : Environment → List Expr → Reply (List typed.Measure)
measures_in env [] = Ok []
measures_in env (e ∷ others) =
    and_then (typed_in env wanteds.Nothing e) (λ (t : Typed).
    and_then (measures_in env others) (λ (rest : List typed.Measure). Ok (record { ty = t.ty; value = t.expr } ∷ rest)))

-- a condition stands where its expression begins
abbrev pub condition_in : Environment → ConditionKind → Expr → Reply Clauses
condition_in env kind e = and_then (typed_in env wanteds.Truth e) (λ (t : Typed). Ok (a_condition kind (record { pos = or_start (beginning_of e); condition = t.expr })))

-- what a clause says, and then whether it belongs there
abbrev pub clause_in : Environment → Owner → Clause → Reply Clauses
clause_in env owner (Condition kind pos e) =
    and_then (condition_in env kind e) (λ (said : Clauses). and_then (unless (belongs owner (Condition kind pos e)) (broken rules.Clauses pos)) (λ (held : Unit {0}). Ok said))
clause_in env owner (Decreases pos values) =
    and_then (measures_in env values) (λ (measures : List typed.Measure).
    and_then (unless (belongs owner (Decreases pos values)) (broken rules.Clauses pos)) (λ (held : Unit {0}). Ok (a_measure measures)))

-- what is owed behind the body sees the results
abbrev pub over_kind : Environment → Environment → Clause → Environment
over_kind parameters results (Condition conditions.Ensures pos e) = results
over_kind parameters results clause = parameters

-- each in its own environment
abbrev pub clauses_in : Environment → Environment → Owner → List Clause → Reply Clauses
clauses_in parameters results owner [] = Ok no_clauses
clauses_in parameters results owner (clause ∷ others) =
    and_then (clause_in (over_kind parameters results clause) owner clause) (λ (one : Clauses). and_then (clauses_in parameters results owner others) (λ (rest : Clauses). Ok (both one rest)))

-- clauses before others
abbrev pub behind_clauses : Clauses → Reply Clauses → Reply Clauses
behind_clauses before (Ok others) = Ok (both before others)
behind_clauses before (Err refusal) = Err refusal

-- ---- printed operands

abbrev pub operand_in : Environment → PrintOperand → Reply typed.Operand
operand_in env (Text characters) = Ok (typed.Text characters)
operand_in env (Value e) = and_then (typed_in env wanteds.Nothing e) (λ (t : Typed). Ok (typed.Value t.ty t.expr))

abbrev pub operands_in : Environment → List PrintOperand → Reply (List typed.Operand)
operands_in env [] = Ok []
operands_in env (operand ∷ others) =
    and_then (operand_in env operand) (λ (one : typed.Operand). and_then (operands_in env others) (λ (rest : List typed.Operand). Ok (one ∷ rest)))
