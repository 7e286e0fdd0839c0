use Rattle.std.proofs.Common.{refl}
use Rattle.df_ntexpr.specs.Parts.{breaches}
use Rattle.df_ntexpr.proofs.LastWrong.{goes_on}
use Rattle.df_ntexpr.proofs.signs.wrong_at.Goals as goal

pub loop-i-preserved : goal.loop-i-preserved
loop-i-preserved c =
    let row = c.index-rows-i.result in
    rw c.type_of-right.ensures
    (goes_on c.args.rows.now c.loop-i.i row c.loop-i.left c.is_last.result (breaches c.loop-i.wrong) (breaches c.unless-wrong.result) _ c.loop-i-test.true c.index-rows-i.is c.is_last.ensures (rw (c.unless-wrong.ensures, c.has_truths-holds.ensures, c.type_of-right.ensures) refl) c.loop-i.invariant)
