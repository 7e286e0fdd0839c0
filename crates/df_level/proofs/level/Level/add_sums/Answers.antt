use Rattle.std.proofs.Common.{◌+◌, take}
use Rattle.std.proofs.lemmas.Result.{err_from_is_err_and}
use Rattle.df_level.specs.Row.{function_row}
use Rattle.df_level.specs.Levels.{rows_of, level_rows}
use Rattle.df_level.proofs.Sets.{next_rows, taken_all, split_at}
use Rattle.df_level.proofs.Eliminating.{adds_none, sums_go, sums_end, sums_stop}
use Rattle.df_level.proofs.Ways.{row_at}
use Rattle.df_level.proofs.level.Level.add_sums.Goals as goal

pub loop-other-init : goal.loop-other-init
loop-other-init c = (adds_none c.args.node (function_row c.args.first.now) (level_rows c.args.self.now), λ e h. h, c.requires.few)

pub returns-in_err-add_sum-clause-row : goal.returns-in_err-add_sum-clause-row
returns-in_err-add_sum-clause-row c =
    let rows = c.args.rows.now in
    let x = c.index-rows-other.result in
    let p = err_from_is_err_and c.from_residual.result c.from_residual.ensures.1 in
    let split = split_at rows c.loop-other.other x c.loop-other-test.true c.index-rows-other.is in
    rw (p.1, p.2) (sums_stop c.args.node (function_row c.args.first.now) (function_row x) (rows_of rows) (rows_of (take c.loop-other.other rows)) split.0 (level_rows c.args.self.now) (level_rows c.loop-other.self) (level_rows c.add_sum.new.self) (level_rows c.add_sum.new.self) c.in_err-add_sum.field-0.0 split.1 c.loop-other.invariant.0 c.loop-other.invariant.2 c.in_err-add_sum.ensures.row)

pub loop-other-preserved : goal.loop-other-preserved
loop-other-preserved c =
    let rows = c.args.rows.now in
    let i = c.loop-other.other in
    let x = c.index-rows-other.result in
    let sums = sums_go c.args.node (function_row c.args.first.now) (function_row x) (rows_of (take i rows)) (rows_of (take (i + 1) rows)) (level_rows c.args.self.now) (level_rows c.loop-other.self) (level_rows c.add_sum.new.self) c.loop-other.invariant.0 c.in_ok-add_sum.ensures.row.0 (next_rows rows i x c.loop-other-test.true c.index-rows-other.is) in
    (sums, λ e h. c.in_ok-add_sum.ensures.way (rows_of rows) e (row_at rows i x c.loop-other-test.true c.index-rows-other.is) (c.loop-other.invariant.1 e h), c.in_ok-add_sum.ensures.row.1)

pub returns-clause-row : goal.returns-clause-row
returns-clause-row c =
    let rows = c.args.rows.now in
    let i = c.loop-other.other in
    (sums_end c.args.node (function_row c.args.first.now) (rows_of rows) (rows_of (take i rows)) (level_rows c.args.self.now) (level_rows c.loop-other.self) c.loop-other.invariant.0 (taken_all rows i c.loop-other-test.false), c.loop-other.invariant.2)
