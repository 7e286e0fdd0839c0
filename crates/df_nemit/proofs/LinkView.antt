-- Addends, factors and links as contracts see them, by their parts.
use Rattle.std.proofs.Common.{◌≡◌, rules}
use Rattle.df_nplain.specs.ExprView.{expr_of, addend_of, factor_of, link_of}
use Rattle.df_nplain.specs.declared.expr.Expr.TheFolds.{the_lemmas}
use Rattle.df_nplain.specs.declared.expr.Addend.{Addend}
use Rattle.df_nplain.specs.declared.expr.Factor.{Factor}
use Rattle.df_nplain.specs.declared.expr.Link as declared

pub addend_operand : (x : Addend) → (addend_of x).operand ≡ expr_of x.operand
addend_operand x = search (rules, the_lemmas)

pub addend_operator : (x : Addend) → (addend_of x).operator ≡ x.operator
addend_operator x = search (rules, the_lemmas)

pub factor_operand : (x : Factor) → (factor_of x).operand ≡ expr_of x.operand
factor_operand x = search (rules, the_lemmas)

pub factor_operator : (x : Factor) → (factor_of x).operator ≡ x.operator
factor_operator x = search (rules, the_lemmas)

pub link_operand : (x : declared.Link) → (link_of x).operand ≡ expr_of x.operand
link_operand x = search (rules, the_lemmas)

pub link_comparison : (x : declared.Link) → (link_of x).comparison ≡ x.comparison
link_comparison x = search (rules, the_lemmas)
