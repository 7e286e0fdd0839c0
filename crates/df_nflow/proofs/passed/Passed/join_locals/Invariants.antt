use Rattle.df_nflow.proofs.Words.{◌≡◌, true, drop, Grows, join_locals_from, AllThere, standing_of, are_at, AreArrived, arrivals_in, changed_in}
use Rattle.df_nflow.proofs.Going.{Moving}
use Rattle.df_nflow.proofs.passed.Passed.join_locals.Given as goal

-- what goes on with the locals that are left goes on with all
abbrev pub invariant-loop-place : goal.invariant-loop-place
invariant-loop-place l = record {
  grows : Grows l.fn.self.ledger.nodes l.self.ledger.nodes;
  at : are_at l.self.types.items (changed_in (drop l.place l.changed)) ≡ true;
  arrived : AreArrived l.self.ledger.nodes l.self.types.items l.arrived;
  there : AllThere l.place (changed_in (drop l.place l.changed)) (arrivals_in l.fn.self.ledger.nodes l.arrived);
  moving : Moving (standing_of l.fn.self) (join_locals_from 0 (changed_in l.changed) (arrivals_in l.fn.self.ledger.nodes l.arrived) (standing_of l.fn.self).fresh (standing_of l.fn.self).way.env (standing_of l.fn.self).way.path)
      (standing_of l.self) (join_locals_from l.place (changed_in (drop l.place l.changed)) (arrivals_in l.fn.self.ledger.nodes l.arrived) (standing_of l.self).fresh (standing_of l.self).way.env (standing_of l.self).way.path);
}
