use Rattle.df_nowed.proofs.Words.{◌≡◌, [], ◌∷◌, reverse, Grows, tree_at, trees_at, AreTerms, Leads, all_steps_left}
use Rattle.df_nowed.proofs.numbering.Renumbering.term.Given as goal

abbrev pub decreases-loop-visit : goal.decreases-loop-visit
decreases-loop-visit l = all_steps_left l.table (reverse l.visits.items)

-- what is left leads to the term alone
abbrev pub invariant-loop-visit : goal.invariant-loop-visit
invariant-loop-visit l = record {
  terms : AreTerms l.table l.self.draft.nodes l.self.terms.items;
  leads : Leads l.table (reverse l.visits.items) (trees_at l.self.draft.nodes l.self.draft.stack.items) (tree_at l.table l.term ∷ []);
  grows : Grows l.fn.self.draft.nodes l.self.draft.nodes;
  hypotheses : l.self.draft.hypotheses.items ≡ l.fn.self.draft.hypotheses.items;
}
