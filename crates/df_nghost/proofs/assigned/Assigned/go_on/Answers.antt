use Rattle.std.proofs.Common.{refl, rules}
use Rattle.df_nghost.specs.declared.assigned.Assigned.{Assigned}
use Rattle.df_nghost.specs.mirror.Known.{assigned_of}
use Rattle.df_nghost.proofs.Points.{extends_same, extends_on, marks_joined}
use Rattle.df_nghost.proofs.Steps.{mark_goes}
use Rattle.df_nghost.proofs.assigned.Assigned.go_on.Goals as goal

pub loop-local-init : goal.loop-local-init
loop-local-init c =
    let begun : Assigned = record c.args.self.now { reached = c.args.join.now.reached } in
    record {
      assigned = rw c.deref-local-items.ensures.value (marks_joined c.args.join.now.reached c.args.self.now.values.listed.items c.args.join.now.taken.items);
      extends = extends_same c.args.self.now begun refl (λ k. refl);
    }

pub loop-local-preserved : goal.loop-local-preserved
loop-local-preserved c = record {
  assigned = mark_goes (assigned_of c.loop-local.self) (assigned_of c.assign.new.self) _ c.deref-local-items.result.now c.loop-local.local-index _ c.loop-local-test.true (search rules) c.in_ok-assign.ensures.assigned c.loop-local.invariant.assigned;
  extends = extends_on c.args.self.now c.loop-local.self c.assign.new.self c.loop-local.invariant.extends c.in_ok-assign.ensures.extends;
}
