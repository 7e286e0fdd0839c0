use Rattle.std.proofs.Common.{◌+◌, take}
use Rattle.df_level.specs.Row.{function_row}
use Rattle.df_level.specs.Levels.{rows_of}
use Rattle.df_level.proofs.Sets.{next_rows, stands_at}
use Rattle.df_back.proofs.Narrowing.{range_goes, range_stops}
use Rattle.df_back.proofs.range.range_of.Goals as goal

pub returns-in_err-next : goal.returns-in_err-next
returns-in_err-next g c = λ count within zero.
    let x = c.row-item.result in
    let there = stands_at c.args.rows.now c.loop-row.row-index x c.loop-row-test.true c.row-item.is in
    range_stops count (g.V.Valuation.numbers c.args.valuation.now) c.args.node (rows_of c.args.rows.now) (function_row x) c.loop-row.range c.narrowed.result c.from_residual.result there (c.narrowed.ensures count (within.each (function_row x) there) zero) c.in_err-next.was c.from_residual.ensures

pub loop-row-preserved : goal.loop-row-preserved
loop-row-preserved g c = λ count within zero.
    let x = c.row-item.result in
    let i = c.loop-row.row-index in
    let there = stands_at c.args.rows.now i x c.loop-row-test.true c.row-item.is in
    range_goes count (g.V.Valuation.numbers c.args.valuation.now) c.args.node (rows_of (take i c.args.rows.now)) (rows_of (take (i + 1) c.args.rows.now)) (function_row x) c.loop-row.range c.in_ok-next.next c.narrowed.result (c.loop-row.invariant count within zero) (c.narrowed.ensures count (within.each (function_row x) there) zero) c.in_ok-next.was (next_rows c.args.rows.now i x c.loop-row-test.true c.row-item.is)
