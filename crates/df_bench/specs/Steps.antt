-- Statements each of which adds 1 to a local.
use Rattle.std.specs.Prelude.{◌≡◌, ℤ, pos, List, [], ◌∷◌}
use Rattle.std.specs.List.{AllByRecursion}
use Rattle.df_lang.specs.declared.expr.AddendOperator.TheVariants as addends
use Rattle.df_nplain.specs.declared.stmt.Stmt as declared
use Rattle.df_nplain.specs.Kind.{Between}
use Rattle.df_nplain.specs.Expr.{Expr, Number, Local, Sum, no_addend, addend}
use Rattle.df_nplain.specs.Stmt.{Single, Stmt, Assign}
use Rattle.df_nplain.specs.StmtView.{stmt_of}

abbrev pub one_more : (low high : ℤ) → Expr
one_more low high = Sum (Between low high) (Local 0) (addend addends.Plus (Number (pos 1)) no_addend)

abbrev pub step : (low high : ℤ) → Stmt
step low high = Assign (record { targets = 0 ∷ []; sources = Single (one_more low high) ∷ [] })

abbrev pub AreSteps : (low high : ℤ) → List declared.Stmt → Type 0
AreSteps low high stmts = AllByRecursion (λ s. stmt_of s ≡ step low high) stmts
