use Rattle.std.proofs.Common.{map, ap, ◌∙◌}
use Rattle.df_mach2.specs.View.{shape_of}
use Rattle.df_vm_store.specs.View.{values_in}
use Rattle.df_vm_text.specs.Tasks.{tasks_text}
use Rattle.df_vm_text.proofs.Printed.{word_finished, nothing_pending}
use Rattle.df_vm_text.proofs.text.print.Goals as goal

pub returns : goal.returns
returns c =
    let t = map shape_of c.args.shapes.now in
    let vs = values_in c.args.store.now in
    word_finished c.put_all.result _ (tasks_text t vs c.new-pending.result.items) c.args.out.now.items c.put_word.new.out.items c.put_all.new.out.items (tasks_text t vs c.put_word.new.pending.items) (ap (tasks_text t vs) c.new-pending.ensures.items ∙ nothing_pending t vs) c.in_ok-put_word.ensures.prints c.put_all.ensures
