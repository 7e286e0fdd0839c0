-- The lists inside the code's expressions, without where they lie in memory.
use Rattle.std.specs.Prelude.{List, map}
use Rattle.df_lang.specs.declared.expr.Expr.TheFolds.{fold-Addend, fold-Factor, fold-Member, fold-Link}
use Rattle.df_lang.specs.declared.expr.Addend as declared_addend
use Rattle.df_lang.specs.declared.expr.Factor as declared_factor
use Rattle.df_lang.specs.declared.expr.Member as declared_member
use Rattle.df_lang.specs.declared.expr.Link as declared_link
use Rattle.df_lang.specs.Expr.{Expr, Addends, Factors, Members, Links}
use Rattle.df_lang.specs.ExprView.{Addend, Factor, Member, Link, expr_step, addend_step, factor_step, link_step, member_step, addends_of, factors_of, members_of, links_of}

abbrev pub addend_of : declared_addend.Addend → Addend
addend_of = fold-Addend Expr Addend Factor Link Member expr_step addend_step factor_step link_step member_step

abbrev pub factor_of : declared_factor.Factor → Factor
factor_of = fold-Factor Expr Addend Factor Link Member expr_step addend_step factor_step link_step member_step

abbrev pub member_of : declared_member.Member → Member
member_of = fold-Member Expr Addend Factor Link Member expr_step addend_step factor_step link_step member_step

abbrev pub link_of : declared_link.Link → Link
link_of = fold-Link Expr Addend Factor Link Member expr_step addend_step factor_step link_step member_step

unfoldable pub addends_in : List declared_addend.Addend → Addends
addends_in addends = addends_of (map addend_of addends)

unfoldable pub factors_in : List declared_factor.Factor → Factors
factors_in factors = factors_of (map factor_of factors)

unfoldable pub members_in : List declared_member.Member → Members
members_in members = members_of (map member_of members)

unfoldable pub links_in : List declared_link.Link → Links
links_in links = links_of (map link_of links)
