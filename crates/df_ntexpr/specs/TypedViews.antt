-- The code's operations of typed runs, without where they lie in memory.
use Rattle.df_lang.specs.declared.expr.Expr.TheFolds.{fold-Addend, fold-Factor, fold-Link, fold-Member}
use Rattle.df_lang.specs.declared.expr.Addend as declared_addend
use Rattle.df_lang.specs.declared.expr.Factor as declared_factor
use Rattle.df_lang.specs.declared.expr.Link as declared_link
use Rattle.df_lang.specs.declared.expr.Member as declared_member
use Rattle.df_lang.specs.Expr.{Expr}
use Rattle.df_lang.specs.ExprView.{Addend, Factor, Link, Member, expr_step, addend_step, factor_step, link_step, member_step}

abbrev pub addend_of : declared_addend.Addend → Addend
addend_of = fold-Addend Expr Addend Factor Link Member expr_step addend_step factor_step link_step member_step

abbrev pub factor_of : declared_factor.Factor → Factor
factor_of = fold-Factor Expr Addend Factor Link Member expr_step addend_step factor_step link_step member_step

abbrev pub link_of : declared_link.Link → Link
link_of = fold-Link Expr Addend Factor Link Member expr_step addend_step factor_step link_step member_step

abbrev pub member_of : declared_member.Member → Member
member_of = fold-Member Expr Addend Factor Link Member expr_step addend_step factor_step link_step member_step
