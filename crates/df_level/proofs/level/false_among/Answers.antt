use Rattle.std.proofs.Common.{◌+◌, take}
use Rattle.df_level.specs.Row.{function_row}
use Rattle.df_level.specs.Levels.{rows_of}
use Rattle.df_level.proofs.Sets.{next_rows, taken_all}
use Rattle.df_level.proofs.Ways.{row_at}
use Rattle.df_level.proofs.Falsehood.{none_yet, none_more, no_false, not_from}
use Rattle.df_level.proofs.level.false_among.Goals as goal

pub loop-number-init : goal.loop-number-init
loop-number-init c = none_yet

pub returns-then-is_false : goal.returns-then-is_false
returns-then-is_false c =
    let rows = c.args.rows.now in
    let x = c.index-rows-number.result in
    (function_row x, row_at rows c.loop-number.number x c.loop-number-test.true c.index-rows-number.is, c.is_false.ensures.0 c.if-is_false.true)

pub loop-number-preserved : goal.loop-number-preserved
loop-number-preserved c =
    let rows = c.args.rows.now in
    let i = c.loop-number.number in
    let x = c.index-rows-number.result in
    none_more (rows_of (take i rows)) (rows_of (take (i + 1) rows)) (function_row x) c.loop-number.invariant (not_from c.is_false.result (function_row x) c.is_false.ensures c.if-is_false.false) (next_rows rows i x c.loop-number-test.true c.index-rows-number.is)

pub returns : goal.returns
returns c =
    let rows = c.args.rows.now in
    let i = c.loop-number.number in
    no_false (rows_of rows) (rows_of (take i rows)) c.loop-number.invariant (taken_all rows i c.loop-number-test.false)
