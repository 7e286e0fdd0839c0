use Rattle.std.proofs.Common.{subst}
use Rattle.df_rules.proofs.Results.{if_ok}
use Rattle.df_search.specs.Searching.{Shortens, Grown, Lessens}
use Rattle.df_search.proofs.Ending.{settling_begins, settling_goes, settling_ends, settling_grows}
use Rattle.df_search.proofs.searching.State.settle.Goals as goal

pub loop-end-init : goal.loop-end-init
loop-end-init c = settling_begins c.args.self.now c.args.first c.requires

pub shortened-requires : goal.shortened-requires
shortened-requires c = c.loop-end.invariant.placed

pub loop-end-preserved : goal.loop-end-preserved
loop-end-preserved c =
    settling_goes c.args.self.now c.args.first c.loop-end.self c.loop-end.end c.shortened.new.self c.in-Some.shorter c.loop-end.invariant
    (subst (Shortens c.loop-end.self c.shortened.new.self) c.in-Some.is c.in_ok-shorter.ensures.shortens) c.in_ok-shorter.ensures.placed c.shortened.ensures.closed
    (subst (Grown c.loop-end.self c.shortened.new.self) c.in-Some.is c.in_ok-shorter.ensures.grown)

pub loop-end-smaller : goal.loop-end-smaller
loop-end-smaller c = subst (Lessens c.loop-end.self c.shortened.new.self) c.in-Some.is c.in_ok-shorter.ensures.less

pub returns-in-None-clause-settles : goal.returns-in-None-clause-settles
returns-in-None-clause-settles c =
    if_ok c.finish.result _ _ c.finish.ensures.ends
    (λ turn finishes. settling_ends c.args.self.now c.args.first c.loop-end.self c.loop-end.end c.shortened.new.self c.args.steps c.finish.new.self turn c.loop-end.invariant
    (subst (Shortens c.loop-end.self c.shortened.new.self) c.in-None.is c.in_ok-shorter.ensures.shortens) c.shortened.ensures.closed finishes)

pub returns-in-None-clause-longer : goal.returns-in-None-clause-longer
returns-in-None-clause-longer c =
    if_ok c.finish.result _ _ c.finish.ensures.longer
    (λ turn goes. settling_grows c.args.self.now c.args.first c.loop-end.self c.loop-end.end c.shortened.new.self c.finish.new.self turn c.loop-end.invariant
    (subst (Grown c.loop-end.self c.shortened.new.self) c.in-None.is c.in_ok-shorter.ensures.grown) goes)
