use Rattle.std.proofs.Common.{refl, arith}
use Rattle.df_level.specs.Row.{function_row}
use Rattle.df_level.specs.Levels.{rows_of}
use Rattle.df_back.specs.BackView.{numbers_of}
use Rattle.df_closure.proofs.Rounds.{found, length_mapped}
use Rattle.df_branch.proofs.Unrefuted.{one_more_holds, all_held}
use Rattle.df_branch.proofs.point.all_hold.Goals as goal

pub loop-row-init : goal.loop-row-init
loop-row-init c = λ count n row within less there. absurd (omega (arith, less))

pub loop-row-preserved : goal.loop-row-preserved
loop-row-preserved c =
    let at = found function_row c.args.rows.now c.loop-row.row-index c.row-item.result c.loop-row-test.true c.row-item.is in
    one_more_holds (numbers_of c.args.numbers.now) (rows_of c.args.rows.now) c.loop-row.row-index (function_row c.row-item.result) at (c.if-not-holds.ensures refl) c.loop-row.invariant

pub returns : goal.returns
returns c = λ holds. all_held (numbers_of c.args.numbers.now) (rows_of c.args.rows.now) c.loop-row.row-index (let same = length_mapped function_row c.args.rows.now in omega (arith, same, c.loop-row-test.false)) c.loop-row.invariant
