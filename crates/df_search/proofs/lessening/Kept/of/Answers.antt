use Rattle.df_search.proofs.Needs.{none_held, among_at}
use Rattle.df_search.proofs.lessening.Kept.of.Goals as goal

pub loop-fact-init : goal.loop-fact-init
loop-fact-init c = none_held c.args.facts.now c.new.result.items c.new.ensures.items

pub loop-fact-preserved : goal.loop-fact-preserved
loop-fact-preserved c = c.in_ok-add.ensures c.args.facts.now c.loop-fact.invariant (among_at c.args.facts.now c.loop-fact.fact-index _ c.loop-fact-test.true)
