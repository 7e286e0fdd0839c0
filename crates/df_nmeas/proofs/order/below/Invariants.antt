use Rattle.df_nmeas.proofs.Words.{◌≡◌, ◌≤◌, drop, Truths, are_below, tree_at, Grows, IsTerm, measured_in, pairs_before}
use Rattle.df_nmeas.proofs.order.below.Given as goal

abbrev pub invariant-loop-place : goal.invariant-loop-place
invariant-loop-place l = record {
  grows : Grows l.fn.nodes l.nodes;
  formula : IsTerm Truths l.nodes l.formula;
  place : l.place ≤ pairs_before l.now l.before;
  same : tree_at l.nodes l.formula ≡ are_below (drop l.place (measured_in l.fn.nodes l.now)) (drop l.place (measured_in l.fn.nodes l.before));
}

abbrev pub decreases-loop-place : goal.decreases-loop-place
decreases-loop-place l = l.place
