use Rattle.std.proofs.Common.{map, arith}
use Rattle.df_mach2.specs.View.{shape_of}
use Rattle.df_vm_store.specs.View.{values_in}
use Rattle.df_vm_text.proofs.Printed.{work_pushed, task_done, task_halted, finished}
use Rattle.df_vm_text.proofs.text.put_all.Goals as goal

pub loop-task-smaller : goal.loop-task-smaller
loop-task-smaller c =
    let vs = values_in c.args.store.now in
    omega (arith, c.put_task.ensures.work, work_pushed vs c.pop.new.self.items c.loop-task.pending.items c.in-Some.task c.in-Some.ensures.items)

pub loop-task-preserved : goal.loop-task-preserved
loop-task-preserved c =
    task_done (map shape_of c.args.shapes.now) (values_in c.args.store.now) c.in-Some.task c.loop-task.pending.items c.pop.new.self.items c.put_task.new.pending.items c.loop-task.out.items c.put_task.new.out.items _ _ c.loop-task.invariant c.in-Some.ensures.items c.in-Ok.ensures.prints

pub returns-in-Err : goal.returns-in-Err
returns-in-Err c =
    task_halted c.in-Err.halt (map shape_of c.args.shapes.now) (values_in c.args.store.now) c.in-Some.task c.loop-task.pending.items c.pop.new.self.items c.loop-task.out.items c.args.out.now.items c.put_task.new.out.items _ _ c.loop-task.invariant c.in-Some.ensures.items c.in-Err.ensures.prints

pub returns : goal.returns
returns c =
    finished (map shape_of c.args.shapes.now) (values_in c.args.store.now) c.loop-task.pending.items c.args.out.now.items c.loop-task.out.items _ c.loop-task.invariant (omega (arith, c.loop-task.pending.ok.0, c.loop-task.pending.ok.1, c.in_default.ensures.cases.0))
