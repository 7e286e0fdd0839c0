use Rattle.std.proofs.Common.{◌+◌, take, rules}
use Rattle.df_level.specs.Row.{function_row}
use Rattle.df_level.specs.Levels.{rows_of}
use Rattle.df_level.proofs.Sets.{next_rows, taken_all}
use Rattle.df_lin_tests.proofs.Inside.{inside_none, inside_more, inside_all}
use Rattle.df_lin_tests.proofs.eliminations.are_inside.Goals as goal

pub loop-row-init : goal.loop-row-init
loop-row-init c = inside_none c.args.count

pub loop-row-preserved : goal.loop-row-preserved
loop-row-preserved c =
    let rows = c.args.rows.now in
    let i = c.loop-row.row-index in
    let x = c.row-item.result in
    inside_more c.args.count (rows_of (take i rows)) (rows_of (take (i + 1) rows)) (function_row x) c.loop-row.invariant (c.is_inside.ensures (search rules)) (next_rows rows i x c.loop-row-test.true c.row-item.is)

pub returns : goal.returns
returns c = λ e. inside_all c.args.count (rows_of c.args.rows.now) (rows_of (take c.loop-row.row-index c.args.rows.now)) c.loop-row.invariant (taken_all c.args.rows.now c.loop-row.row-index c.loop-row-test.false)
