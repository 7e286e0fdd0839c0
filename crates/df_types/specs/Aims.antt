-- What is known behind a proof.
use Rattle.std.specs.Prelude.{ℕ, suc, List, [], ◌∷◌, map, Option, None, Some}
use Rattle.df_base.specs.declared.pos.Pos.{Pos}
use Rattle.df_types.specs.declared.expr.Connective.TheVariants.{Implies}
use Rattle.df_types.specs.declared.expr.Quantifier.{Quantifier}
use Rattle.df_types.specs.declared.expr.Quantifier.TheVariants.{Forall}
use Rattle.df_types.specs.Expr.{Expr, Junction, Quantify, no_expr, expr, no_trigger}
use Rattle.df_types.specs.Stmt.{Demand, Range, Aim}

-- over the ranges, whose quantifiers have the numbers from this on
abbrev pub quantified : Quantifier → ℕ → Pos → List Range → Expr → Expr
quantified q site at [] e = e
quantified q site at (r ∷ rs) e = Quantify site at q r.variable r.extent no_trigger (quantified q (suc site) at rs e)

abbrev pub where_given : Option Expr → Expr → Expr
where_given None e = e
where_given (Some given) e = Junction Implies given (expr e no_expr)

abbrev pub known_by : ℕ → Pos → Aim → Demand → Expr
known_by site at aim d = quantified Forall (suc site) at aim.ranges (where_given aim.given d.condition)

-- each claim, for all values of the ranges where what is given is true
abbrev pub known_behind : ℕ → Pos → Aim → List Expr
known_behind site at aim = map (known_by site at aim) aim.claims
