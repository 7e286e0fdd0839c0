use Rattle.df_nowed.proofs.Words.{rules, ◌≡◌, ℕ, List, map, sym, subst, ◌∙◌, AllByRecursion, Node, trees_at, obligation_in, with_goal}
use Rattle.df_nowed.specs.Counts.{AreCounts}
use Rattle.df_nowed.specs.Owed.{IsOwed}
use Rattle.df_nowed.proofs.Anew.{HasPlace, have_places, same_obligations}
use Rattle.df_nowed.proofs.listing.numbered_anew.Goals as goal

pub returns-clause-owed : goal.returns-clause-owed
returns-clause-owed c =
    let before = c.args.listed.now in
    let after = c.in_ok-nodes.field-0 in
    let nodes : c.in_ok-new.field-0 ≡ c.in_ok-nodes.field-0.nodes = search rules in
    let known : c.in_ok-new-2.field-0 ≡ c.in_ok-nodes.field-0.formulas.items = search rules in
    let all : c.in_ok-obligations.obligations.items ≡ map (with_goal c.in_ok-nodes.field-0.formulas.items) c.args.listed.now.obligations.items = search rules in
    let trees : trees_at c.in_ok-nodes.field-0.nodes c.in_ok-nodes.field-0.formulas.items ≡ trees_at c.args.listed.now.nodes c.args.listed.now.known.items = search rules in
    (λ i. map (obligation_in c.args.declaration (nodes i) (known i)) (all i)) ∙ same_obligations before.nodes after.nodes before.known.items after.formulas.items trees c.args.declaration before.obligations.items before.are_owed

pub with_goals-requires : goal.with_goals-requires
with_goals-requires c =
    let before = c.args.listed.now in
    let after = c.in_ok-nodes.field-0 in
    let trees : trees_at c.in_ok-nodes.field-0.nodes c.in_ok-nodes.field-0.formulas.items ≡ trees_at c.args.listed.now.nodes c.args.listed.now.known.items = search rules in
    let places = have_places before.nodes after.nodes before.known.items after.formulas.items trees before.obligations.items before.are_owed in
    subst (λ (known : List ℕ). AllByRecursion (HasPlace known) c.deref-2.result.now) (sym c.deref-3.ensures.value) (subst (AllByRecursion (HasPlace after.formulas.items)) (sym c.deref-2.ensures.value) places)

pub invariant_of-result : goal.invariant_of-result
invariant_of-result c =
    let numbered = c.in_ok-nodes.field-0 in
    let counts = c.in_ok-nodes.field-0.counts.items in
    let nodes : c.in_ok-nodes.field-0.nodes ≡ c.in_ok-new.field-0 = search rules in
    let known : c.in_ok-nodes.field-0.formulas.items ≡ c.in_ok-new-2.field-0 = search rules in
    record {
      are_owed = subst (λ (formulas : List ℕ). AllByRecursion (IsOwed formulas) c.in_ok-obligations.obligations.items) (c.deref-3.ensures.value ∙ known) c.in_ok-obligations.ensures.owed;
      are_counts = subst (λ (formulas : List ℕ). AreCounts c.in_ok-new.field-0 formulas counts) known (subst (λ (table : List Node). AreCounts table numbered.formulas.items counts) nodes numbered.are_counts);
    }
