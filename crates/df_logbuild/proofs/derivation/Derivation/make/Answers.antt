use Rattle.std.proofs.Common.{◌≡◌, ℕ, ◌<◌, true, List, ◌++◌, ◌∷◌, [], ◌∙◌, length, ap, refl, sym, subst, arith}
use Rattle.df_form.specs.declared.log.Step as declared
use Rattle.df_form.specs.declared.log.Step.TheVariants as variants
use Rattle.df_form.specs.Node.{node_of}
use Rattle.df_form.specs.Made.{made}
use Rattle.df_form.specs.Sorting.{is_well_sorted}
use Rattle.df_logbuild.proofs.Added.{made_runs}
use Rattle.df_logbuild.proofs.derivation.Derivation.make.Goals as goal

pub add-requires : goal.add-requires
add-requires c = subst (λ (parts : List ℕ). is_well_sorted c.args.self.now.nodes (record { op = c.args.node.op; parts = parts }) ≡ true) (sym c.as_slice.ensures.value) c.requires.sorted

pub returns-in_ok-push-clause-runs : goal.returns-in_ok-push-clause-runs
returns-in_ok-push-clause-runs c =
    let line : declared.Step = variants.Make c.args.node in
    let added : c.push.new.self.items ≡ c.args.self.now.lines.items ++ line ∷ [] = c.in_ok-push.ensures.items ∙ ap (λ ls. ls ++ line ∷ []) c.in_ok-reserve.ensures.items in
    let is = (λ i. made c.args.self.now.nodes (record { op = c.args.node.op; parts = sym c.as_slice.ensures.value i })) ∙ c.in_ok-number.ensures.made in
    let less : length c.args.self.now.nodes < length c.add.new.self = omega (arith, c.if-len-before.true, c.len-before.ensures.len, c.len.ensures.len) in
    λ s all runs. made_runs s c.args.self.now _ all line (node_of c.args.node) c.in_ok-number.number added refl refl is less c.requires.sorted (c.requires.own s.world) runs
