use Rattle.std.proofs.Common.{◌+◌, ◌-◌, nat_eq, map, refl, sym, ◌∙◌, arith}
use Rattle.df_mach2.specs.View.{shape_of}
use Rattle.df_mach2.specs.Text.{separator, text_of}
use Rattle.df_vm_store.specs.View.{values_in, value_at}
use Rattle.df_vm_text.specs.declared.tasks.Arguments.{Arguments}
use Rattle.df_vm_text.specs.declared.tasks.Task.TheVariants as tasks
use Rattle.df_vm_text.specs.Tasks.{arguments_text}
use Rattle.df_vm_text.proofs.Printed.{arguments_none, arguments_few, arguments_many, arguments_front, nothing_printed, front_printed, less_front}
use Rattle.df_vm_text.proofs.text.put_arguments.Goals as goal

pub returns-in-None-None-clause-prints : goal.returns-in-None-None-clause-prints
returns-in-None-None-clause-prints c =
    let begins = rw c.in-None-None.is-0 at c.first.ensures.begins in
    nothing_printed _ _ _ (arguments_none (map shape_of c.args.shapes.now) (values_in c.args.store.now) c.args.arguments begins (sym c.in-None-None.is-1 ∙ c.part.ensures.part))

pub returns-in-None-Some-clause-prints : goal.returns-in-None-Some-clause-prints
returns-in-None-Some-clause-prints c =
    let begins = rw c.in-None-Some.is-0 at c.first.ensures.begins in
    arguments_few (map shape_of c.args.shapes.now) (values_in c.args.store.now) c.args.arguments c.in-None-Some.field-0-1 begins (sym c.in-None-Some.is-1 ∙ c.part.ensures.part)

pub returns-in-None-Some-2-clause-prints : goal.returns-in-None-Some-2-clause-prints
returns-in-None-Some-2-clause-prints c =
    let begins = rw c.in-None-Some.is-0 at c.first.ensures.begins in
    arguments_many (map shape_of c.args.shapes.now) (values_in c.args.store.now) c.args.arguments (value_at c.args.store.now c.in-None-Some.field-0-0) _ (begins.0) (sym c.in-None-Some.is-1 ∙ c.part.ensures.part)

pub returns-in_ok-push-in-Some-Some-clause-prints : goal.returns-in_ok-push-in-Some-Some-clause-prints
returns-in_ok-push-in-Some-Some-clause-prints c =
    let t = map shape_of c.args.shapes.now in
    let vs = values_in c.args.store.now in
    let a = c.args.arguments in
    let k = c.in-Some-Some in
    let begins = rw c.in-Some-Some.is-0 at c.first.ensures.begins in
    let others : Arguments = record { from = a.from + 1; count = a.count - 1; shape = a.shape; tag = a.tag; place = a.place + 1 } in
    front_printed c.put_word.result t vs (tasks.Arguments others) (arguments_text t vs a) (text_of t (value_at c.args.store.now k.word) k.shape) (separator (nat_eq a.place 0)) c.args.out.now.items c.put_separator.new.out.items c.put_word.new.out.items c.args.pending.now.items c.push.new.self.items _
    (arguments_front t vs a others (value_at c.args.store.now k.word) k.shape (begins.0) (sym c.in-Some-Some.is-1 ∙ c.part.ensures.part) refl refl (omega arith)) c.in_ok-put_separator-in-Some-Some.ensures c.in_ok-push-in-Some-Some.ensures.items c.put_word.ensures.prints

pub returns-in_ok-push-in-Some-Some-clause-work : goal.returns-in_ok-push-in-Some-Some-clause-work
returns-in_ok-push-in-Some-Some-clause-work c =
    let vs = values_in c.args.store.now in
    let a = c.args.arguments in
    let begins = rw c.in-Some-Some.is-0 at c.first.ensures.begins in
    let others : Arguments = record { from = a.from + 1; count = a.count - 1; shape = a.shape; tag = a.tag; place = a.place + 1 } in
    less_front vs c.args.pending.now.items c.push.new.self.items c.put_word.new.pending.items (tasks.Arguments others) a.from a.count (a.from + 1) (a.count - 1) (value_at c.args.store.now c.in-Some-Some.word) (begins.0) refl c.in_ok-push-in-Some-Some.ensures.items c.put_word.ensures.work
