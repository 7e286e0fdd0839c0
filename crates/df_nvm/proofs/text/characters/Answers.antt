use Rattle.std.proofs.Common.{rules}
use Rattle.df_nvm.proofs.Read.{reads_on, reads_no_more}
use Rattle.df_nvm.proofs.text.characters.Goals as goal

pub returns-in_default : goal.returns-in_default
returns-in_default c =
    reads_no_more c.args.values.now c.loop-value.value-index c.value-item.result c.loop-value.text.items _ c.loop-value-test.true c.value-item.is (search rules) c.loop-value.invariant

pub loop-value-preserved : goal.loop-value-preserved
loop-value-preserved c =
    reads_on c.args.values.now c.loop-value.value-index c.value-item.result c.in-Some.character c.loop-value.text.items _ _ c.loop-value-test.true c.value-item.is c.in-Some.ensures c.in_ok-push.ensures.items c.loop-value.invariant
