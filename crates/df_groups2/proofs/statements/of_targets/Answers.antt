use Rattle.std.proofs.Common.{List, map, flat_map, refl, arith}
use Rattle.df_types.specs.declared.stmt.Target.{Target}
use Rattle.df_types.specs.StmtView.{target_of}
use Rattle.df_types.specs.Gathering.{of_target}
use Rattle.df_groups2.specs.Parts.{calls_in}
use Rattle.std.proofs.lemmas.Grind.{flat_map-append}
use Rattle.df_types.specs.Gathering.{gather}
use Rattle.df_types.specs.Calls.{called}
use Rattle.df_lemmas.proofs.Loops.{run_more, run_done}
use Rattle.df_groups2.proofs.statements.of_targets.Goals as goal

pub loop-target-preserved : goal.loop-target-preserved
loop-target-preserved c =
    run_more (λ (l : List Target). calls_in (flat_map of_target (map target_of l))) (λ (target : Target). calls_in (of_target (target_of target))) (λ x xs. flat_map-append (gather called) (of_target (target_of x)) (flat_map of_target (map target_of xs))) c.args.targets.now c.loop-target.target-index
    c.target-item.result c.loop-target.callees.items c.of_target.new.callees.items _ c.loop-target-test.true c.target-item.is c.in_ok-of_target.ensures c.loop-target.invariant

pub returns : goal.returns
returns c =
    run_done (λ (l : List Target). calls_in (flat_map of_target (map target_of l))) refl c.args.targets.now c.loop-target.target-index c.loop-target.callees.items _ (omega arith) c.loop-target.invariant
