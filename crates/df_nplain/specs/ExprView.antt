-- The code's expressions, without where they lie in memory.
use Rattle.std.specs.Prelude.{List, [], ◌∷◌}
use Rattle.df_lang.specs.declared.expr.AddendOperator.{AddendOperator}
use Rattle.df_lang.specs.declared.expr.FactorOperator.{FactorOperator}
use Rattle.df_lang.specs.declared.expr.Comparison.{Comparison}
use Rattle.df_nplain.specs.declared.expr.Expr as declared
use Rattle.df_nplain.specs.declared.expr.Expr.TheOpen.{Expr-F, Addend-F, Factor-F, Link-F}
use Rattle.df_nplain.specs.declared.expr.Expr.TheFolds.{fold-Expr, fold-Addend, fold-Factor, fold-Link}
use Rattle.df_nplain.specs.declared.expr.Addend as declared_addend
use Rattle.df_nplain.specs.declared.expr.Factor as declared_factor
use Rattle.df_nplain.specs.declared.expr.Link as declared_link
use Rattle.df_nplain.specs.Kind.{range_of, kind_of}
use Rattle.df_nplain.specs.Expr.{Expr, Number, Truth, Character, Local, Negate, Not, Sum, Product, Junction, Implies, Iff, Chain, As, Addends, no_addend, addend, Factors, no_factor, factor, Members, no_member, member, Links, no_link, link}

pub record Addend : Type 0 where
  pub operator : AddendOperator
  pub operand : Expr

pub record Factor : Type 0 where
  pub operator : FactorOperator
  pub operand : Expr

pub record Link : Type 0 where
  pub comparison : Comparison
  pub operand : Expr

abbrev pub addends_of : List Addend → Addends
addends_of [] = no_addend
addends_of (x ∷ xs) = addend x.operator x.operand (addends_of xs)

abbrev pub factors_of : List Factor → Factors
factors_of [] = no_factor
factors_of (x ∷ xs) = factor x.operator x.operand (factors_of xs)

abbrev pub members_of : List Expr → Members
members_of [] = no_member
members_of (x ∷ xs) = member x (members_of xs)

abbrev pub links_of : List Link → Links
links_of [] = no_link
links_of (x ∷ xs) = link x.comparison x.operand (links_of xs)

-- one node, with its parts as they are seen
abbrev pub expr_step : Expr-F Expr Addend Factor Link → Expr
expr_step (Expr-F.Number value) = Number value
expr_step (Expr-F.Truth value) = Truth value
expr_step (Expr-F.Character code) = Character code
expr_step (Expr-F.Local local) = Local local
expr_step (Expr-F.Negate range operand) = Negate (range_of range) operand.value
expr_step (Expr-F.Not operand) = Not operand.value
expr_step (Expr-F.Sum range first rest) = Sum (range_of range) first.value (addends_of rest.items)
expr_step (Expr-F.Product range first rest) = Product (range_of range) first.value (factors_of rest.items)
expr_step (Expr-F.Junction junction first rest) = Junction junction first.value (members_of rest.items)
expr_step (Expr-F.Implies first rest) = Implies first.value (members_of rest.items)
expr_step (Expr-F.Iff first rest) = Iff first.value (members_of rest.items)
expr_step (Expr-F.Chain first rest) = Chain first.value (links_of rest.items)
expr_step (Expr-F.As source target operand) = As (kind_of source) (kind_of target) operand.value

abbrev pub addend_step : Addend-F Expr Addend Factor Link → Addend
addend_step x = record { operator = x.operator; operand = x.operand }

abbrev pub factor_step : Factor-F Expr Addend Factor Link → Factor
factor_step x = record { operator = x.operator; operand = x.operand }

abbrev pub link_step : Link-F Expr Addend Factor Link → Link
link_step x = record { comparison = x.comparison; operand = x.operand }

abbrev pub expr_of : declared.Expr → Expr
expr_of = fold-Expr Expr Addend Factor Link expr_step addend_step factor_step link_step

abbrev pub addend_of : declared_addend.Addend → Addend
addend_of = fold-Addend Expr Addend Factor Link expr_step addend_step factor_step link_step

abbrev pub factor_of : declared_factor.Factor → Factor
factor_of = fold-Factor Expr Addend Factor Link expr_step addend_step factor_step link_step

abbrev pub link_of : declared_link.Link → Link
link_of = fold-Link Expr Addend Factor Link expr_step addend_step factor_step link_step
