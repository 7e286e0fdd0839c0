use Rattle.df_nowed.proofs.Words.{◌≡◌, [], take, drop, AllByRecursion, Truths, IsTerm, trees_at, AreTerms}
use Rattle.df_nowed.specs.Counts.{AreCounts}
use Rattle.df_nowed.proofs.numbering.Renumbering.assume_all.Given as goal

-- the formulas so far are the hypotheses
abbrev pub invariant-loop-formula : goal.invariant-loop-formula
invariant-loop-formula l = record {
  terms : AreTerms l.table l.self.draft.nodes l.self.terms.items;
  stack : l.self.draft.stack.items ≡ [];
  hypotheses : trees_at l.self.draft.nodes l.self.draft.hypotheses.items ≡ trees_at l.table (take l.formula-index l.formulas);
  counts : AreCounts l.self.draft.nodes l.self.draft.hypotheses.items l.counts.items;
  left : AllByRecursion (IsTerm Truths l.table) (drop l.formula-index l.formulas);
}
