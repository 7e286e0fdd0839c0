use Rattle.std.proofs.Common.{◌+◌, take, sym, subst, List, []}
use Rattle.std.proofs.lemmas.Result.{err_from_is_err_and}
use Rattle.df_row.specs.Row.{Row}
use Rattle.df_level.specs.Row.{function_row}
use Rattle.df_level.specs.Levels.{rows_of, level_rows, IsSoFar}
use Rattle.df_level.proofs.Sets.{next_rows, taken_all, split_at}
use Rattle.df_level.proofs.Eliminating.{so_far_none, few_none, so_far_goes, so_far_ends, level_stops}
use Rattle.df_level.proofs.Ways.{no_ways, row_at}
use Rattle.df_level.proofs.level.eliminated.Goals as goal

pub loop-number-init : goal.loop-number-init
loop-number-init c =
    let rows = rows_of c.args.rows.now in
    let P : List Row → Type 0 = λ k. IsSoFar c.args.node [] rows k in
    (subst P (sym c.new-level.ensures.rows) (so_far_none c.args.node rows), no_ways rows c.new-level.result c.new-level.ensures.rows c.new-level.ensures.ways, few_none (level_rows c.new-level.result) c.new-level.ensures.rows)

pub returns-in_err-add_made-clause-rows : goal.returns-in_err-add_made-clause-rows
returns-in_err-add_made-clause-rows c =
    let rows = c.args.rows.now in
    let x = c.index-rows-number.result in
    let p = err_from_is_err_and c.from_residual.result c.from_residual.ensures.1 in
    let split = split_at rows c.loop-number.number x c.loop-number-test.true c.index-rows-number.is in
    rw (p.1, p.2) (level_stops c.args.node (function_row x) (rows_of rows) (rows_of (take c.loop-number.number rows)) split.0 (level_rows c.loop-number.level) (level_rows c.add_made.new.self) c.in_err-add_made.field-0.0 split.1 c.loop-number.invariant.0 c.in_err-add_made.ensures.row)

pub loop-number-preserved : goal.loop-number-preserved
loop-number-preserved c =
    let rows = c.args.rows.now in
    let i = c.loop-number.number in
    let x = c.index-rows-number.result in
    let level = so_far_goes c.args.node (function_row x) (rows_of (take i rows)) (rows_of (take (i + 1) rows)) (rows_of rows) (level_rows c.loop-number.level) (level_rows c.add_made.new.self) c.loop-number.invariant.0 c.in_ok-add_made.ensures.row.0 (next_rows rows i x c.loop-number-test.true c.index-rows-number.is) in
    (level, c.in_ok-add_made.ensures.way (row_at rows i x c.loop-number-test.true c.index-rows-number.is) c.loop-number.invariant.1, c.in_ok-add_made.ensures.row.1)

pub returns-clause-rows : goal.returns-clause-rows
returns-clause-rows c =
    let rows = c.args.rows.now in
    let i = c.loop-number.number in
    so_far_ends c.args.node (rows_of rows) (rows_of (take i rows)) (level_rows c.loop-number.level) c.loop-number.invariant.0 c.loop-number.invariant.2 (taken_all rows i c.loop-number-test.false)
