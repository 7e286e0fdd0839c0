-- Conditions and measures of clauses of the grammar are expressions of the grammar.
use Rattle.std.proofs.Common.{Bool, true, false, List, [], ◌∷◌}
use Rattle.std.specs.Prelude.{if◌then◌else◌}
use Rattle.std.specs.List.{AllByRecursion}
use Rattle.df_lemmas.proofs.Alls.{all_joined}
use Rattle.df_ntree.specs.declared.file.ConditionKind.{ConditionKind}
use Rattle.df_ntree.specs.Expr.{Expr}
use Rattle.df_ntree.specs.ExprSpelling.{IsExpr}
use Rattle.df_ntree.specs.File.{Clause, Condition, Decreases}
use Rattle.df_ntree.specs.FileSpelling.{IsClause}
use Rattle.df_ntyping.specs.StatementElaboration.{is_of_kind, conditions_of, measures_in}

chosen : (b : Bool) (e : Expr) (es : List Expr) → IsExpr e → AllByRecursion IsExpr es → AllByRecursion IsExpr (if b then e ∷ es else es)
chosen true e es h k = (h, k)
chosen false e es h k = k

pub condition_exprs : (kind : ConditionKind) (clauses : List Clause) → AllByRecursion IsClause clauses → AllByRecursion IsExpr (conditions_of kind clauses)
condition_exprs kind [] g = tt
condition_exprs kind (Condition own pos e ∷ others) g = chosen (is_of_kind own kind) e (conditions_of kind others) g.0 (condition_exprs kind others g.1)
condition_exprs kind (Decreases pos values ∷ others) g = condition_exprs kind others g.1

pub measure_exprs : (clauses : List Clause) → AllByRecursion IsClause clauses → AllByRecursion IsExpr (measures_in clauses)
measure_exprs [] g = tt
measure_exprs (Condition kind pos e ∷ others) g = measure_exprs others g.1
measure_exprs (Decreases pos values ∷ others) g = all_joined IsExpr values (measures_in others) g.0.1 (measure_exprs others g.1)
