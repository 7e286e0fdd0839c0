use Rattle.df_nowed.proofs.Words.{◌≡◌, ◌+◌, ◌++◌, ◌∷◌, [], List, ℕ, Some, None, slice_get, reverse, sym, ap, ◌∙◌, arith, subst, get_below, Node, node_of, tree_at, trees_at, Visit, parts_at, Leads}
use Rattle.df_nowed.proofs.Visits.{next_first, parts_there, there_in, to_next, part_below}
use Rattle.df_nowed.proofs.numbering.Renumbering.step.Goals as goal

pub meet-requires-clause-below : goal.meet-requires-clause-below
meet-requires-clause-below c =
    let at : slice_get c.in-Some.node.now.parts.items c.args.visit.parts ≡ Some c.in-Some-get.part.now = there_in c.deref.result.now c.in-Some.node.now.parts.items c.args.visit.parts c.in-Some-get.part.now c.deref.ensures.value c.in-Some-get.ensures.lookup.3.0 c.in-Some-get.ensures.lookup.1 in
    part_below c.args.table.now c.requires.terms.is_table c.args.visit.node (node_of c.in-Some.node.now) (sym c.in-Some.ensures.node) c.args.visit.parts c.in-Some-get.part.now at

pub returns-in_ok-meet-in-Some-get-clause-leads : goal.returns-in_ok-meet-in-Some-get-clause-leads
returns-in_ok-meet-in-Some-get-clause-leads c = λ after h.
    let next : Visit = record { node = c.args.visit.node; parts = c.args.visit.parts + 1 } in
    let visits : reverse c.push.new.self.items ≡ next ∷ reverse c.args.visits.now.items = ap (λ (vs : List Visit). reverse vs) c.in_ok-push-in-Some-get.ensures.items ∙ next_first c.args.visits.now.items next in
    let parts : parts_at c.args.table.now c.args.visit.node ≡ (node_of c.in-Some.node.now).parts = parts_there c.args.table.now c.args.visit.node (node_of c.in-Some.node.now) (sym c.in-Some.ensures.node) in
    let at : slice_get c.in-Some.node.now.parts.items c.args.visit.parts ≡ Some c.in-Some-get.part.now = there_in c.deref.result.now c.in-Some.node.now.parts.items c.args.visit.parts c.in-Some-get.part.now c.deref.ensures.value c.in-Some-get.ensures.lookup.3.0 c.in-Some-get.ensures.lookup.1 in
    let there : slice_get (parts_at c.args.table.now c.args.visit.node) c.args.visit.parts ≡ Some c.in-Some-get.part.now = ap (λ (ns : List ℕ). slice_get ns c.args.visit.parts) parts ∙ at in
    c.in_ok-meet-in-Some-get.ensures.leads after
    (subst (λ (vs : List Visit). Leads c.args.table.now vs (trees_at c.args.self.now.draft.nodes c.args.self.now.draft.stack.items ++ tree_at c.args.table.now c.in-Some-get.part.now ∷ []) after) (sym visits)
    (to_next c.args.table.now c.args.visit (c.args.visit.parts + 1) c.in-Some-get.part.now (reverse c.args.visits.now.items) (trees_at c.args.self.now.draft.nodes c.args.self.now.draft.stack.items) after (omega arith) there h))

none_inside : (table : List Node) (n : ℕ) → None ≡ slice_get table n → (one : Node) × (slice_get table n ≡ Some one) → ⊥
none_inside table n none found = cc (none, found.1)

pub unreachable-requires : goal.unreachable-requires
unreachable-requires c = none_inside c.args.table.now c.args.visit.node c.in-None.ensures.node (get_below c.args.table.now c.args.visit.node c.requires.leads.1.0.below)
