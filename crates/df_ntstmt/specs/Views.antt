-- The code's branches of typed statements, without where they lie in memory.
use Rattle.df_lang.specs.declared.stmt.Branch as declared
use Rattle.df_lang.specs.declared.stmt.Stmt.TheFolds.{fold-Branch}
use Rattle.df_lang.specs.Stmt.{Stmt}
use Rattle.df_lang.specs.StmtView.{Branch, stmt_step, branch_step}

abbrev pub branch_of : declared.Branch → Branch
branch_of = fold-Branch Stmt Branch stmt_step branch_step
