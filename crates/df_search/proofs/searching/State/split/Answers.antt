use Rattle.std.proofs.Common.{rules, to_z, of_z, ◌≡◌, sym, ◌∙◌}
use Rattle.std.specs.Int.{w128}
use Rattle.std.proofs.lemmas.Int.{to_z-of_z}
use Rattle.df_form.specs.declared.node.Op.TheVariants as ops
use Rattle.df_form.specs.Made.{made}
use Rattle.df_rules.specs.Bound.{number}
use Rattle.df_logbuild.proofs.Added.{ok_weaker}
use Rattle.df_search.proofs.Splitting.{comparison_sorted, splits}
use Rattle.df_search.proofs.searching.State.split.Goals as goal

pub operation-requires-clause-sorted : goal.operation-requires-clause-sorted
operation-requires-clause-sorted c =
    let old = c.args.self.now.derivation.nodes in
    let first = c.make.new.self.nodes in
    let passed : to_z w128 (of_z w128 c.args.bound) ≡ c.args.bound = search (rules, to_z-of_z) in
    let e : made old (number c.args.bound) ≡ record { nodes = first; number = c.in_ok-place.place } = (λ i. made old (record { op = ops.Number (sym passed i); parts = sym c.new.ensures.items i })) ∙ c.in_ok-place.ensures.made in
    comparison_sorted old first c.args.node c.in_ok-place.place c.args.bound c.requires e

pub returns-clause-splits : goal.returns-clause-splits
returns-clause-splits c =
    let old = c.args.self.now.derivation.nodes in
    let first = c.make.new.self.nodes in
    let passed : to_z w128 (of_z w128 c.args.bound) ≡ c.args.bound = search (rules, to_z-of_z) in
    let e : made old (number c.args.bound) ≡ record { nodes = first; number = c.in_ok-place.place } = (λ i. made old (record { op = ops.Number (sym passed i); parts = sym c.new.ensures.items i })) ∙ c.in_ok-place.ensures.made in
    ok_weaker c.decide.result _ _
    (λ trail_is s rounds searches leaf. splits s rounds c.args.self.now searches c.args.node c.in_ok-place.place c.in_ok-comparison.comparison c.args.bound _ c.make.new.self c.operation.new.derivation c.decide.new.self leaf e c.in_ok-place.ensures.runs c.in_ok-comparison.ensures.made c.in_ok-comparison.ensures.runs trail_is)
    c.decide.ensures.decides
