use Rattle.df_nemit.proofs.Tail.{gives_on}
use Rattle.df_nemit.proofs.emission.give.Goals as goal

pub loop-local-preserved : goal.loop-local-preserved
loop-local-preserved c =
    gives_on c.loop-local.code.items c.put.new.code.items c.args.first c.loop-local.local c.args.count _ c.loop-local-test.true c.in_ok-put.ensures.ok c.loop-local.invariant
