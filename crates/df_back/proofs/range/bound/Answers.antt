use Rattle.std.proofs.Common.{◌≡◌, to_z, of_z, rules}
use Rattle.std.proofs.lemmas.Int.{to_z-of_z}
use Rattle.std.specs.Int.{w128}
use Rattle.df_level.specs.Row.{function_row}
use Rattle.df_back.proofs.Bounds.{tells_none, tells_some, stands_below}
use Rattle.df_back.proofs.range.bound.Goals as goal

pub returns-in_err-rest : goal.returns-in_err-rest
returns-in_err-rest g c = λ count within none.
    let row = function_row c.args.row.now in
    tells_none count (g.V.Valuation.numbers c.args.valuation.now) c.args.node row (stands_below count row c.args.node within c.requires) none c.value_at.result c.from_residual.result (c.value_at.ensures count within) c.in_err-rest.was c.from_residual.ensures

pub returns : goal.returns
returns g c = λ count within none.
    let row = function_row c.args.row.now in
    let less = stands_below count row c.args.node within c.requires in
    let rest : to_z w128 (of_z w128 c.in_ok-rest.rest) ≡ c.in_ok-rest.rest = search (rules, to_z-of_z) in
    let coefficient : to_z w128 (of_z w128 c.coefficient.result) ≡ row.coefficient c.args.node = search (rules, to_z-of_z, c.coefficient.ensures) in
    tells_some count (g.V.Valuation.numbers c.args.valuation.now) c.args.node row less none c.value_at.result c.last.result c.in_ok-rest.rest _ _ (c.value_at.ensures count within) c.in_ok-rest.was rest coefficient c.last.ensures
