use Rattle.std.proofs.Common.{map, ap, arith}
use Rattle.df_mach2.specs.View.{shape_of}
use Rattle.df_vm_store.specs.View.{values_in}
use Rattle.df_vm_text.specs.Tasks.{tasks_work}
use Rattle.df_vm_text.specs.declared.tasks.Task.TheVariants as tasks
use Rattle.df_vm_text.proofs.Printed.{opened, work_opened, work_pushed}
use Rattle.df_vm_text.proofs.constructors.open.Goals as goal

pub returns-in_err-push-3-clause-work : goal.returns-in_err-push-3-clause-work
returns-in_err-push-3-clause-work c =
    let vs = values_in c.args.store.now in
    omega (arith, ap (tasks_work vs) (c.in_err-push-3.ensures.items), work_pushed vs c.args.pending.now.items c.push-2.new.self.items (tasks.Close c.args.closing) c.in_ok-push-2.ensures.items)

pub returns-clause-prints : goal.returns-clause-prints
returns-clause-prints c =
    opened (map shape_of c.args.shapes.now) (values_in c.args.store.now) c.args.pending.now.items c.push-2.new.self.items c.push-3.new.self.items c.args.opening c.args.closing c.args.inner c.args.out.now.items c.push.new.self.items c.in_ok-push.ensures.items c.in_ok-push-2.ensures.items c.in_ok-push-3.ensures.items

pub returns-clause-work : goal.returns-clause-work
returns-clause-work c = work_opened (values_in c.args.store.now) c.args.pending.now.items c.push-2.new.self.items c.push-3.new.self.items c.args.closing c.args.inner c.in_ok-push-2.ensures.items c.in_ok-push-3.ensures.items
