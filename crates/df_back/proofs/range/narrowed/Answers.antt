use Rattle.std.proofs.Common.{◌≡◌, ◌<ℤ◌, ℤ, Option, Some, to_z, of_z, pos, refl, ap, subst, rules, arith}
use Rattle.std.proofs.lemmas.Int.{to_z-of_z, ints}
use Rattle.std.specs.Int.{w128}
use Rattle.df_level.specs.Row.{function_row}
use Rattle.df_back.specs.Ranges.{IsRowBound, TellsRowBound, IsGreater, IsLesser}
use Rattle.df_back.proofs.Narrowing.{narrows_none, narrows_low, narrows_high, narrowed_none}
use Rattle.df_back.proofs.range.narrowed.Goals as goal

pub returns-then-coefficient-eq0 : goal.returns-then-coefficient-eq0
returns-then-coefficient-eq0 g c = λ count within zero.
    let row = function_row c.args.row.now in
    let none : row.coefficient c.args.node ≡ pos 0 = search (rules, to_z-of_z, c.coefficient-coefficient.ensures) in
    narrows_none count (g.V.Valuation.numbers c.args.valuation.now) c.args.node row c.args.range none

pub returns-in_err-bound : goal.returns-in_err-bound
returns-in_err-bound g c = λ count within zero.
    let row = function_row c.args.row.now in
    let some : row.coefficient c.args.node ≡ pos 0 → ⊥ = search (rules, to_z-of_z, c.coefficient-coefficient.ensures) in
    narrowed_none count (g.V.Valuation.numbers c.args.valuation.now) c.args.node row c.args.range c.bound.result c.from_residual.result c.from_residual.ensures (c.bound.ensures count within zero) c.in_err-bound.was some

pub returns-then-coefficient-gt0 : goal.returns-then-coefficient-gt0
returns-then-coefficient-gt0 g c = λ count within zero.
    let numbers = g.V.Valuation.numbers c.args.valuation.now in
    let row = function_row c.args.row.now in
    let P : Option ℤ → Type 0 = TellsRowBound count numbers c.args.node row in
    let bound : IsRowBound count numbers c.args.node row c.in_ok-bound.bound = subst P c.in_ok-bound.was (c.bound.ensures count within zero) in
    let positive : pos 0 <ℤ row.coefficient c.args.node = search (rules, to_z-of_z, c.coefficient-coefficient.ensures, c.if-coefficient-gt0.true) in
    let greater : IsGreater c.args.range.low c.in_ok-bound.bound c.greater.result = search (rules, to_z-of_z, c.greater.ensures) in
    let passed : to_z w128 (of_z w128 c.greater.result) ≡ c.greater.result = search (rules, to_z-of_z) in
    narrows_low count numbers c.args.node row c.args.range _ c.in_ok-bound.bound positive bound c.greater.result greater (ap Some passed) refl

pub returns-else-coefficient-gt0 : goal.returns-else-coefficient-gt0
returns-else-coefficient-gt0 g c = λ count within zero.
    let numbers = g.V.Valuation.numbers c.args.valuation.now in
    let row = function_row c.args.row.now in
    let P : Option ℤ → Type 0 = TellsRowBound count numbers c.args.node row in
    let bound : IsRowBound count numbers c.args.node row c.in_ok-bound.bound = subst P c.in_ok-bound.was (c.bound.ensures count within zero) in
    let coefficient : c.coefficient-coefficient.result ≡ row.coefficient c.args.node = c.coefficient-coefficient.ensures in
    let negative : row.coefficient c.args.node <ℤ pos 0 = omega (arith, ints) in
    let lesser : IsLesser c.args.range.high c.in_ok-bound.bound c.lesser.result = search (rules, to_z-of_z, c.lesser.ensures) in
    let passed : to_z w128 (of_z w128 c.lesser.result) ≡ c.lesser.result = search (rules, to_z-of_z) in
    narrows_high count numbers c.args.node row c.args.range _ c.in_ok-bound.bound negative bound c.lesser.result lesser refl (ap Some passed)
