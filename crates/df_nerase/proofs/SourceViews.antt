-- Parts of expressions of the source, as contracts see them.
use Rattle.std.proofs.Common.{◌≡◌, rules}
use Rattle.df_lang.specs.ExprView.{expr_of}
use Rattle.df_lang.specs.declared.expr.Addend as declared_addend
use Rattle.df_lang.specs.declared.expr.Factor as declared_factor
use Rattle.df_lang.specs.declared.expr.Member as declared_member
use Rattle.df_lang.specs.declared.expr.Link as declared_link
use Rattle.df_lang.specs.declared.expr.Expr.TheFolds.{the_lemmas}
use Rattle.df_nerase.specs.Views.{addend_of, factor_of, member_of, link_of}

pub addend_operator : (x : declared_addend.Addend) → (addend_of x).operator ≡ x.operator
addend_operator x = search (rules, the_lemmas)

pub addend_operand : (x : declared_addend.Addend) → (addend_of x).operand ≡ expr_of x.operand
addend_operand x = search (rules, the_lemmas)

pub factor_operator : (x : declared_factor.Factor) → (factor_of x).operator ≡ x.operator
factor_operator x = search (rules, the_lemmas)

pub factor_operand : (x : declared_factor.Factor) → (factor_of x).operand ≡ expr_of x.operand
factor_operand x = search (rules, the_lemmas)

pub member_operand : (x : declared_member.Member) → (member_of x).operand ≡ expr_of x.operand
member_operand x = search (rules, the_lemmas)

pub link_comparison : (x : declared_link.Link) → (link_of x).comparison ≡ x.comparison
link_comparison x = search (rules, the_lemmas)

pub link_operand : (x : declared_link.Link) → (link_of x).operand ≡ expr_of x.operand
link_operand x = search (rules, the_lemmas)
