use Rattle.std.proofs.Common.{◌+◌, take}
use Rattle.std.proofs.lemmas.Result.{err_from_is_err_and}
use Rattle.df_level.specs.Row.{function_row}
use Rattle.df_level.specs.Levels.{rows_of, level_rows}
use Rattle.df_level.proofs.Sets.{next_rows, taken_all, split_at}
use Rattle.df_level.proofs.Eliminating.{first_begins, first_goes, first_stops, first_ends}
use Rattle.df_level.proofs.Ways.{no_ways, row_at}
use Rattle.df_level.proofs.level.Level.first.Goals as goal

pub loop-number-init : goal.loop-number-init
loop-number-init c = (first_begins (level_rows c.new-level.result) c.new-level.ensures.rows, no_ways (rows_of c.args.rows.now) c.new-level.result c.new-level.ensures.rows c.new-level.ensures.ways)

pub returns-in_err-add_divided-clause-rows : goal.returns-in_err-add_divided-clause-rows
returns-in_err-add_divided-clause-rows c =
    let rows = c.args.rows.now in
    let x = c.index-rows-number.result in
    let p = err_from_is_err_and c.from_residual.result c.from_residual.ensures.1 in
    let split = split_at rows c.loop-number.number x c.loop-number-test.true c.index-rows-number.is in
    rw (p.1, p.2) (first_stops (function_row x) (rows_of rows) (rows_of (take c.loop-number.number rows)) split.0 (level_rows c.loop-number.level) (level_rows c.add_divided.new.self) c.in_err-add_divided.field-0.0 split.1 c.loop-number.invariant.0 c.in_err-add_divided.ensures.row)

pub loop-number-preserved : goal.loop-number-preserved
loop-number-preserved c =
    let rows = c.args.rows.now in
    let i = c.loop-number.number in
    let x = c.index-rows-number.result in
    let first = first_goes (function_row x) (rows_of (take i rows)) (rows_of (take (i + 1) rows)) (level_rows c.loop-number.level) (level_rows c.add_divided.new.self) c.loop-number.invariant.0 c.in_ok-add_divided.ensures.row.0 c.in_ok-add_divided.ensures.row.1 (next_rows rows i x c.loop-number-test.true c.index-rows-number.is) in
    (first, c.in_ok-add_divided.ensures.way (rows_of rows) (row_at rows i x c.loop-number-test.true c.index-rows-number.is) c.loop-number.invariant.1)

pub returns-clause-rows : goal.returns-clause-rows
returns-clause-rows c =
    let rows = c.args.rows.now in
    let i = c.loop-number.number in
    first_ends (rows_of rows) (rows_of (take i rows)) (level_rows c.loop-number.level) c.loop-number.invariant.0 (taken_all rows i c.loop-number-test.false)
