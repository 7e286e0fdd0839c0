-- Names have their meanings wherever an expression stands, and whatever is known of the types of locals.
use Rattle.std.proofs.Common.{◌≡◌, ℕ, true, sym, ◌∙◌}
use Rattle.df_ntree.specs.Expr.{Expr}
use Rattle.df_ntyping.specs.Environment.{Environment}
use Rattle.df_ntyping.specs.Rule.{stage_of}
use Rattle.df_ntyping.specs.ExprNodes.{expr_nodes}
use Rattle.df_ntyping.specs.Least.{Fault, IsFault, BreaksNoneIn}
use Rattle.df_nnames.specs.Globals.{globals_of}
use Rattle.df_nnames.specs.Faults.{expr_faults}
use Rattle.df_nnames.proofs.ExprNodes.{scope_of, expr_same}
use Rattle.df_nnames.proofs.FirstTold.{none_told, none_is_told}

pub none_anywhere : (env other : Environment) (start at : ℕ) (e : Expr) → other.table ≡ env.table → scope_of other ≡ scope_of env → BreaksNoneIn 0 (expr_nodes env start e) → BreaksNoneIn 0 (expr_nodes other at e)
none_anywhere env other start at e table scope none =
    none_told (expr_nodes other at e) (expr_same true other at e ∙ (λ i. expr_faults (globals_of (table i)) (scope i) e) ∙ sym (expr_same true env start e) ∙ none_is_told (expr_nodes env start e) none)

-- also where faults are counted from the first token of the expression
pub names_anywhere : (env other : Environment) (start : ℕ) (e : Expr) → other.table ≡ env.table → scope_of other ≡ scope_of env → BreaksNoneIn 0 (expr_nodes env start e)
    → (fault : Fault) → IsFault (expr_nodes other 0 e) fault → stage_of fault.rule ≡ 0 → ⊥
names_anywhere env other start e table scope none fault broken of_stage = none_anywhere env other start 0 e table scope none fault (broken, of_stage)
