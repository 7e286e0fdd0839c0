use Rattle.std.proofs.Common.{◌+◌, take}
use Rattle.df_level.specs.Row.{function_row}
use Rattle.df_level.specs.Levels.{rows_of}
use Rattle.df_level.proofs.Sets.{next_rows, taken_all}
use Rattle.df_elim.specs.Elimination.{low_after}
use Rattle.df_elim.proofs.Variables.{tells_none, tells_more, tells_all}
use Rattle.df_elim.proofs.variable.next_variable.Goals as goal

pub loop-row-init : goal.loop-row-init
loop-row-init c = tells_none (low_after c.args.last)

pub loop-row-preserved : goal.loop-row-preserved
loop-row-preserved c =
    let rows = c.args.rows.now in
    let i = c.loop-row.row-index in
    let x = c.row-item.result in
    tells_more (low_after c.args.last) (rows_of (take i rows)) (rows_of (take (i + 1) rows)) (function_row x) c.loop-row.least c.variable_of.result c.lesser-least.result c.loop-row.invariant c.variable_of.ensures c.lesser-least.ensures (next_rows rows i x c.loop-row-test.true c.row-item.is)

pub returns : goal.returns
returns c =
    let rows = c.args.rows.now in
    let i = c.loop-row.row-index in
    tells_all (low_after c.args.last) (rows_of rows) (rows_of (take i rows)) c.loop-row.least c.loop-row.invariant (taken_all rows i c.loop-row-test.false)
