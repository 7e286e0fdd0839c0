-- The lists inside the code's statements, without where they lie in memory.
use Rattle.std.specs.Prelude.{List, map}
use Rattle.df_lang.specs.declared.stmt.Stmt as declared
use Rattle.df_lang.specs.declared.stmt.Branch as declared_branch
use Rattle.df_lang.specs.declared.stmt.Stmt.TheFolds.{fold-Branch}
use Rattle.df_lang.specs.Stmt.{Stmt, Stmts, Branches}
use Rattle.df_lang.specs.StmtView.{Branch, stmt_step, branch_step, stmt_of, stmts_of, branches_of}

abbrev pub branch_of : declared_branch.Branch → Branch
branch_of = fold-Branch Stmt Branch stmt_step branch_step

abbrev pub stmts_in : List declared.Stmt → Stmts
stmts_in stmts = stmts_of (map stmt_of stmts)

abbrev pub branches_in : List declared_branch.Branch → Branches
branches_in branches = branches_of (map branch_of branches)
