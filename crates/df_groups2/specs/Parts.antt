-- The lists inside the code's expressions and statements, without where they lie in memory, and what they call.
use Rattle.std.specs.Prelude.{ℕ, List, map}
use Rattle.std.specs.List.{flat_map}
use Rattle.df_types.specs.declared.expr.Expr as declared
use Rattle.df_types.specs.declared.expr.Operand as declared_operand
use Rattle.df_types.specs.declared.expr.Link as declared_link
use Rattle.df_types.specs.declared.expr.Arm as declared_arm
use Rattle.df_types.specs.declared.expr.Expr.TheFolds.{fold-Operand, fold-Link, fold-Arm}
use Rattle.df_types.specs.declared.stmt.Stmt as declared_stmt
use Rattle.df_types.specs.declared.stmt.Branch as declared_branch
use Rattle.df_types.specs.declared.stmt.Stmt.TheFolds.{fold-Branch}
use Rattle.df_types.specs.Expr.{Expr, Exprs, Links, Arms, Extent, exprs_of}
use Rattle.df_types.specs.ExprView.{Operand, Link, Arm, links_of, arms_of, expr_step, extent_step, arm_step, link_step, operand_step, trigger_step, expr_of, Trigger}
use Rattle.df_types.specs.Stmt.{Stmt, Stmts, Branches, stmts_of}
use Rattle.df_types.specs.StmtView.{Guarded, stmt_step, branch_step, stmt_of, branches_of}
use Rattle.df_types.specs.Gathering.{gather}
use Rattle.df_types.specs.Calls.{called}

-- ---- expressions

abbrev pub operand_of : declared_operand.Operand → Operand
operand_of = fold-Operand Expr Extent Arm Link Operand Trigger expr_step extent_step arm_step link_step operand_step trigger_step

abbrev pub link_of : declared_link.Link → Link
link_of = fold-Link Expr Extent Arm Link Operand Trigger expr_step extent_step arm_step link_step operand_step trigger_step

abbrev pub arm_of : declared_arm.Arm → Arm
arm_of = fold-Arm Expr Extent Arm Link Operand Trigger expr_step extent_step arm_step link_step operand_step trigger_step

abbrev pub exprs_in : List declared.Expr → Exprs
exprs_in es = exprs_of (map expr_of es)

abbrev pub links_in : List declared_link.Link → Links
links_in links = links_of (map link_of links)

abbrev pub arms_in : List declared_arm.Arm → Arms
arms_in arms = arms_of (map arm_of arms)

-- what expressions call
abbrev pub calls_in : List Expr → List ℕ
calls_in es = flat_map (gather called) es

abbrev pub operand_values : List declared_operand.Operand → List Expr
operand_values operands = map (λ (x : Operand). x.operand) (map operand_of operands)

-- ---- statements

abbrev pub guarded_of : declared_branch.Branch → Guarded
guarded_of = fold-Branch Stmt Guarded stmt_step branch_step

abbrev pub stmts_in : List declared_stmt.Stmt → Stmts
stmts_in stmts = stmts_of (map stmt_of stmts)

abbrev pub branches_in : List declared_branch.Branch → Branches
branches_in branches = branches_of (map guarded_of branches)
