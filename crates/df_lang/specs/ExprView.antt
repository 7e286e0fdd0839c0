-- The code's expressions, without where they lie in memory.
use Rattle.std.specs.Prelude.{List, [], ◌∷◌}
use Rattle.df_base.specs.declared.pos.Pos.{Pos}
use Rattle.df_lang.specs.declared.expr.AddendOperator.{AddendOperator}
use Rattle.df_lang.specs.declared.expr.FactorOperator.{FactorOperator}
use Rattle.df_lang.specs.declared.expr.Comparison.{Comparison}
use Rattle.df_lang.specs.declared.expr.Expr as declared
use Rattle.df_lang.specs.declared.expr.Expr.TheOpen.{Expr-F, Addend-F, Factor-F, Member-F, Link-F}
use Rattle.df_lang.specs.declared.expr.Expr.TheFolds.{fold-Expr}
use Rattle.df_lang.specs.Expr.{Expr, Number, Truth, Character, Local, Negate, Not, Sum, Product, Junction, Implies, Iff, Chain, As, Convert, Addends, no_addend, addend, Factors, no_factor, factor, Members, no_member, member, Links, no_link, link}

pub record Addend : Type 0 where
  pub operator : AddendOperator
  pub pos : Pos
  pub operand : Expr

pub record Factor : Type 0 where
  pub operator : FactorOperator
  pub pos : Pos
  pub operand : Expr

pub record Member : Type 0 where
  pub pos : Pos
  pub operand : Expr

pub record Link : Type 0 where
  pub comparison : Comparison
  pub pos : Pos
  pub operand : Expr

abbrev pub addends_of : List Addend → Addends
addends_of [] = no_addend
addends_of (x ∷ xs) = addend x.operator x.pos x.operand (addends_of xs)

abbrev pub factors_of : List Factor → Factors
factors_of [] = no_factor
factors_of (x ∷ xs) = factor x.operator x.pos x.operand (factors_of xs)

abbrev pub members_of : List Member → Members
members_of [] = no_member
members_of (x ∷ xs) = member x.pos x.operand (members_of xs)

abbrev pub links_of : List Link → Links
links_of [] = no_link
links_of (x ∷ xs) = link x.comparison x.pos x.operand (links_of xs)

-- one node, with its parts as they are seen
abbrev pub expr_step : Expr-F Expr Addend Factor Link Member → Expr
expr_step (Expr-F.Number ty value pos) = Number ty value pos
expr_step (Expr-F.Truth value pos) = Truth value pos
expr_step (Expr-F.Character code pos) = Character code pos
expr_step (Expr-F.Local local name pos) = Local local name pos
expr_step (Expr-F.Negate ty pos operand) = Negate ty pos operand.value
expr_step (Expr-F.Not pos operand) = Not pos operand.value
expr_step (Expr-F.Sum ty first rest) = Sum ty first.value (addends_of rest.items)
expr_step (Expr-F.Product ty first rest) = Product ty first.value (factors_of rest.items)
expr_step (Expr-F.Junction junction first rest) = Junction junction first.value (members_of rest.items)
expr_step (Expr-F.Implies arrow first rest) = Implies arrow first.value (members_of rest.items)
expr_step (Expr-F.Iff first rest) = Iff first.value (members_of rest.items)
expr_step (Expr-F.Chain ty first rest) = Chain ty first.value (links_of rest.items)
expr_step (Expr-F.As source target pos operand) = As source target pos operand.value
expr_step (Expr-F.Convert source target pos operand) = Convert source target pos operand.value

abbrev pub addend_step : Addend-F Expr Addend Factor Link Member → Addend
addend_step x = record { operator = x.operator; pos = x.pos; operand = x.operand }

abbrev pub factor_step : Factor-F Expr Addend Factor Link Member → Factor
factor_step x = record { operator = x.operator; pos = x.pos; operand = x.operand }

abbrev pub member_step : Member-F Expr Addend Factor Link Member → Member
member_step x = record { pos = x.pos; operand = x.operand }

abbrev pub link_step : Link-F Expr Addend Factor Link Member → Link
link_step x = record { comparison = x.comparison; pos = x.pos; operand = x.operand }

abbrev pub expr_of : declared.Expr → Expr
expr_of = fold-Expr Expr Addend Factor Link Member expr_step addend_step factor_step link_step member_step
