-- The lists inside the code's expressions and statements, without where they lie in memory.
use Rattle.std.specs.Prelude.{List, map}
use Rattle.df_lang.specs.declared.expr.Addend as declared_addend
use Rattle.df_lang.specs.declared.expr.Factor as declared_factor
use Rattle.df_lang.specs.declared.expr.Member as declared_member
use Rattle.df_lang.specs.declared.expr.Link as declared_link
use Rattle.df_lang.specs.declared.expr.Expr.TheFolds.{fold-Addend, fold-Factor, fold-Link, fold-Member}
use Rattle.df_lang.specs.declared.stmt.Stmt as declared
use Rattle.df_lang.specs.declared.stmt.Branch as declared_branch
use Rattle.df_lang.specs.declared.stmt.Stmt.TheFolds.{fold-Branch}
use Rattle.df_lang.specs.Expr.{Expr, Addends, Factors, Members, Links}
use Rattle.df_lang.specs.ExprView.{Addend, Factor, Member, Link, expr_step, addend_step, factor_step, link_step, member_step, addends_of, factors_of, members_of, links_of}
use Rattle.df_lang.specs.Stmt.{Stmt, Stmts, Branches}
use Rattle.df_lang.specs.StmtView.{Branch, stmt_step, branch_step, stmt_of, stmts_of, branches_of}

abbrev pub addend_of : declared_addend.Addend → Addend
addend_of = fold-Addend Expr Addend Factor Link Member expr_step addend_step factor_step link_step member_step

abbrev pub factor_of : declared_factor.Factor → Factor
factor_of = fold-Factor Expr Addend Factor Link Member expr_step addend_step factor_step link_step member_step

abbrev pub member_of : declared_member.Member → Member
member_of = fold-Member Expr Addend Factor Link Member expr_step addend_step factor_step link_step member_step

abbrev pub link_of : declared_link.Link → Link
link_of = fold-Link Expr Addend Factor Link Member expr_step addend_step factor_step link_step member_step

abbrev pub branch_of : declared_branch.Branch → Branch
branch_of = fold-Branch Stmt Branch stmt_step branch_step

abbrev pub addends_in : List declared_addend.Addend → Addends
addends_in addends = addends_of (map addend_of addends)

abbrev pub factors_in : List declared_factor.Factor → Factors
factors_in factors = factors_of (map factor_of factors)

abbrev pub members_in : List declared_member.Member → Members
members_in members = members_of (map member_of members)

abbrev pub links_in : List declared_link.Link → Links
links_in links = links_of (map link_of links)

abbrev pub stmts_in : List declared.Stmt → Stmts
stmts_in stmts = stmts_of (map stmt_of stmts)

abbrev pub branches_in : List declared_branch.Branch → Branches
branches_in branches = branches_of (map branch_of branches)
