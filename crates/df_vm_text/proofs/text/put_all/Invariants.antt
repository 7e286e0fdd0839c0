use Rattle.std.proofs.Common.{◌≡◌, Some, map}
use Rattle.df_mach2.specs.View.{shape_of}
use Rattle.df_mach2.specs.Text.{then_text}
use Rattle.df_vm_store.specs.View.{values_in}
use Rattle.df_vm_text.specs.Tasks.{tasks_text, tasks_work}
use Rattle.df_vm_text.proofs.text.put_all.Given as goal

-- what was put, and what is left, are the whole
abbrev pub invariant-loop-task : goal.invariant-loop-task
invariant-loop-task l =
    then_text (Some l.out.items) (tasks_text (map shape_of l.shapes) (values_in l.store) l.pending.items) ≡ then_text (Some l.initial.out.items) (tasks_text (map shape_of l.shapes) (values_in l.store) l.initial.pending.items)

abbrev pub decreases-loop-task : goal.decreases-loop-task
decreases-loop-task l = tasks_work (values_in l.store) l.pending.items
