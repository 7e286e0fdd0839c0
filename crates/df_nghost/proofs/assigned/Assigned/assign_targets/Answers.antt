use Rattle.std.proofs.Common.{rules}
use Rattle.df_nghost.specs.mirror.Known.{assigned_of}
use Rattle.df_nghost.proofs.Points.{extends_on}
use Rattle.df_nghost.proofs.Steps.{target_goes}
use Rattle.df_nghost.proofs.assigned.Assigned.assign_targets.Goals as goal

pub loop-target-preserved : goal.loop-target-preserved
loop-target-preserved c = record {
  assigned = target_goes (assigned_of c.loop-target.self) (assigned_of c.assign.new.self) _ c.deref-target-items.result.now c.loop-target.target-index _ c.loop-target-test.true c.in_ok-assign.ensures.assigned c.loop-target.invariant.assigned;
  extends = extends_on c.args.self.now c.loop-target.self c.assign.new.self c.loop-target.invariant.extends (search rules);
}
