use Rattle.std.proofs.Common.{◌+◌, ◌-◌, false, map, refl}
use Rattle.df_mach2.specs.View.{shape_of}
use Rattle.df_mach2.specs.Text.{separator, text_of}
use Rattle.df_vm_store.specs.View.{values_in, value_at}
use Rattle.df_vm_text.specs.declared.tasks.Members.{Members}
use Rattle.df_vm_text.specs.declared.tasks.Task.TheVariants as tasks
use Rattle.df_vm_text.specs.Tasks.{members_text}
use Rattle.df_vm_text.proofs.Printed.{members_front, front_printed, less_front}
use Rattle.df_vm_text.proofs.text.put_members.Goals as goal

pub returns-clause-prints : goal.returns-clause-prints
returns-clause-prints c =
    let t = map shape_of c.args.shapes.now in
    let vs = values_in c.args.store.now in
    let m = c.args.members in
    let others : Members = record { from = m.from + 1; count = m.count - 1; shape = m.shape; is_first = false } in
    front_printed c.put_word.result t vs (tasks.Members others) (members_text t vs m) (text_of t (value_at c.args.store.now c.in-Some.word) m.shape) (separator m.is_first) c.args.out.now.items c.put_separator.new.out.items c.put_word.new.out.items c.args.pending.now.items c.push.new.self.items _
    (members_front t vs m others (value_at c.args.store.now c.in-Some.word) (c.in-Some.ensures.begins.0) refl refl) c.in_ok-put_separator.ensures c.in_ok-push.ensures.items c.put_word.ensures.prints

pub returns-clause-work : goal.returns-clause-work
returns-clause-work c =
    let vs = values_in c.args.store.now in
    let m = c.args.members in
    let others : Members = record { from = m.from + 1; count = m.count - 1; shape = m.shape; is_first = false } in
    less_front vs c.args.pending.now.items c.push.new.self.items c.put_word.new.pending.items (tasks.Members others) m.from m.count (m.from + 1) (m.count - 1) (value_at c.args.store.now c.in-Some.word) (c.in-Some.ensures.begins.0) refl c.in_ok-push.ensures.items c.put_word.ensures.work
