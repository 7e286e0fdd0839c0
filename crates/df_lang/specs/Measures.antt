-- Measures of loops and methods: their own, or those by default.
use Rattle.std.specs.Prelude.{ℕ, suc, List, [], ◌∷◌, Option, None, Some}
use Rattle.std.specs.Option.{unwrap_or}
use Rattle.df_base.specs.declared.pos.Pos.{Pos}
use Rattle.df_lang.specs.declared.ty.Ty.{Ty}
use Rattle.df_lang.specs.declared.ty.Ty.TheVariants as types
use Rattle.df_lang.specs.declared.expr.AddendOperator.TheVariants as addends
use Rattle.df_lang.specs.declared.expr.Junction.TheVariants as junctions
use Rattle.df_lang.specs.declared.expr.Comparison.{Comparison}
use Rattle.df_lang.specs.declared.expr.Comparison.TheVariants as comparisons
use Rattle.df_lang.specs.Expr.{Expr, Local, Sum, Junction, Chain, As, no_addend, addend, no_link, link}
use Rattle.df_lang.specs.Stmt.{Measure}
use Rattle.df_lang.specs.Program.{Param, Method}

-- how far one value of an integer type is below another, as an `int`
abbrev pub distance : Ty → Pos → Expr → Expr → Expr
distance ty pos low high = Sum types.Int (As ty types.Int pos high) (addend addends.Minus pos (As ty types.Int pos low) no_addend)

-- of a comparison of integers by order: what falls
abbrev pub comparison_measure : Ty → Pos → Expr → Comparison → Expr → Option Expr
comparison_measure types.Bool pos a comparison b = None
comparison_measure types.Char pos a comparison b = None
comparison_measure ty pos a comparisons.Less b = Some (distance ty pos a b)
comparison_measure ty pos a comparisons.AtMost b = Some (distance ty pos a b)
comparison_measure ty pos a comparisons.Greater b = Some (distance ty pos b a)
comparison_measure ty pos a comparisons.AtLeast b = Some (distance ty pos b a)
comparison_measure ty pos a comparison b = None

-- Of a guard `A < B` or `A <= B` it is `B - A`, of `A > B` or `A >= B` it is `A - B`. Of conjuncts the first one counts.
abbrev pub guard_measure : Expr → Option Expr
guard_measure (Chain ty first (link comparison pos operand no_link)) = comparison_measure ty pos first comparison operand
guard_measure (Junction junctions.And first rest) = guard_measure first
guard_measure e = None

-- of the number, where there is one
abbrev pub measure_of_number : Option Expr → List Measure
measure_of_number None = []
measure_of_number (Some value) = record { ty = types.Int; value = value } ∷ []

-- the measure of a loop: its clause, or that of its guard
abbrev pub loop_measure : Expr → Option (List Measure) → List Measure
loop_measure guard decreases = unwrap_or decreases (measure_of_number (guard_measure guard))

-- the parameters in order, by their numbers
abbrev pub parameters_from : ℕ → List Param → List Measure
parameters_from from [] = []
parameters_from from (param ∷ others) = record { ty = param.ty; value = Local from param.declared.name param.declared.pos } ∷ parameters_from (suc from) others

-- the measure of a method: its clause, or its parameters in order
abbrev pub method_measure : Method → List Measure
method_measure m = unwrap_or m.decreases (parameters_from 0 m.parameters)
