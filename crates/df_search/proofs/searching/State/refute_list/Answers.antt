use Rattle.std.proofs.Common.{ℕ, List, map, ap, ◌∙◌}
use Rattle.df_form.specs.Clause.{negation}
use Rattle.df_rules.specs.Propagation.{propagation_line}
use Rattle.df_rules.proofs.Results.{if_ok}
use Rattle.df_trail.specs.Trail.{branch_of}
use Rattle.df_trail.proofs.Held.{held_formulas}
use Rattle.df_search.specs.Searching.{clauses_of}
use Rattle.df_search.proofs.Refuting.{refuted_line}
use Rattle.df_search.proofs.searching.State.refute_list.Goals as goal

pub returns-clause-refutes : goal.returns-clause-refutes
returns-clause-refutes c =
    let old = c.args.self.now in
    let nodes = old.derivation.nodes in
    let list = c.args.list.items in
    if_ok c.propagate.result _ _ c.propagate.ensures.propagates
    (λ conflict propagates s rounds all is shut held refuted.
    let formulas = held_formulas nodes (branch_of old.trail) list held is.standing.place.formulas in
    let line = ap (λ (ns : List ℕ). propagation_line nodes all ns (map negation list)) c.in_ok-placed.ensures ∙ refuted_line nodes (clauses_of old) old.places.items all list c.args.numbers.now is.standing.lines formulas refuted in
    propagates s rounds all is shut held line)
