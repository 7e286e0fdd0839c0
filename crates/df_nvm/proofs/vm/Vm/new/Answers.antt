use Rattle.std.proofs.Common.{refl, sym, subst, [], ◌∷◌, ◌∙◌, arith}
use Rattle.df_nmach.specs.Run.{NeverFaults}
use Rattle.df_nmach.specs.Step.{Stepped, On}
use Rattle.df_nmach.specs.View.{values_of, heap_of, code_of}
use Rattle.df_nvm.proofs.Begins.{method_there, begins}
use Rattle.df_nvm.proofs.vm.Vm.new.Goals as goal

pub index-requires : goal.index-requires
index-requires c =
    let lt = method_there (code_of c.args.code.now) c.args.code.now.methods.items c.args.method (heap_of c.args.heap) (values_of c.args.arguments.items) refl c.requires in
    omega (arith, lt)

pub invariant_of-result : goal.invariant_of-result
invariant_of-result c =
    let lt = method_there (code_of c.args.code.now) c.args.code.now.methods.items c.args.method (heap_of c.args.heap) (values_of c.args.arguments.items) refl c.requires in
    let made = c.in_ok-machine.ensures in
    let starts = begins (code_of c.args.code.now) c.args.code.now.methods.items c.args.method c.index.result.now (heap_of c.args.heap) (values_of c.args.arguments.items) refl lt c.index.ensures c.requires ∙ (λ i. On (record { heap = sym made.heap i; frames = sym made.running i ∷ sym made.waiting i; text = [] })) in
    record { never_faults = subst (λ (s : Stepped). NeverFaults (code_of c.args.code.now) s) starts c.requires }

pub returns-clause-start : goal.returns-clause-start
returns-clause-start c =
    let lt = method_there (code_of c.args.code.now) c.args.code.now.methods.items c.args.method (heap_of c.args.heap) (values_of c.args.arguments.items) refl c.requires in
    let made = c.in_ok-machine.ensures in
    begins (code_of c.args.code.now) c.args.code.now.methods.items c.args.method c.index.result.now (heap_of c.args.heap) (values_of c.args.arguments.items) refl lt c.index.ensures c.requires ∙ (λ i. On (record { heap = sym made.heap i; frames = sym made.running i ∷ sym made.waiting i; text = [] }))
