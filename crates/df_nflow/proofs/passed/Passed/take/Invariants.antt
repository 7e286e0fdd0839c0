use Rattle.df_nflow.proofs.Words.{◌≡◌, [], ◌∷◌, true, drop, trees_at, over, saying, take_all, AllThere, standing_of, are_at, arrival_in, changed_in}
use Rattle.df_nflow.proofs.Going.{Moving}
use Rattle.df_nflow.proofs.passed.Passed.take.Given as goal

-- what goes on with the locals that are left goes on with all
abbrev pub invariant-loop-place : goal.invariant-loop-place
invariant-loop-place l = record {
  nodes : l.self.ledger.nodes ≡ l.fn.self.ledger.nodes;
  at : are_at l.self.types.items (changed_in (drop l.place l.changed)) ≡ true;
  there : AllThere l.place (changed_in (drop l.place l.changed)) (arrival_in l.fn.self.ledger.nodes l.way ∷ []);
  moving : Moving (standing_of l.fn.self) (saying [] (standing_of l.fn.self).fresh (over (take_all (changed_in l.changed) (trees_at l.fn.self.ledger.nodes l.way.terms.items) (standing_of l.fn.self).way.env) (standing_of l.fn.self).way))
      (standing_of l.self) (saying [] (standing_of l.self).fresh (over (take_all (changed_in (drop l.place l.changed)) (trees_at l.fn.self.ledger.nodes (drop l.place l.way.terms.items)) (standing_of l.self).way.env) (standing_of l.self).way));
}
