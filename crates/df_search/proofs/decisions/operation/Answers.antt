use Rattle.std.proofs.Common.{ℕ, List, ap, ◌∙◌}
use Rattle.df_form.specs.Sorting.{is_well_sorted}
use Rattle.df_search.proofs.decisions.operation.Goals as goal

pub make-requires-clause-sorted : goal.make-requires-clause-sorted
make-requires-clause-sorted c = ap (λ (parts : List ℕ). is_well_sorted c.args.derivation.now.nodes (record { op = c.args.op; parts = parts })) c.in_ok-parts.ensures.items ∙ c.requires.sorted
