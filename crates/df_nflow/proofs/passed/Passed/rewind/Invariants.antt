use Rattle.df_nflow.proofs.Words.{◌≡◌, ◌≤◌, length, take, drop, standing_of, over_terms, AreKept, all_kept_in, back}
use Rattle.df_nflow.proofs.passed.Passed.rewind.Given as goal

-- what leads back from here leads back from the end, and ahead to it
abbrev pub invariant-loop-self : goal.invariant-loop-self
invariant-loop-self l = record {
  longer : l.mark ≤ length l.self.trail.items;
  nodes : l.self.ledger.nodes ≡ l.fn.self.ledger.nodes;
  types : l.self.types.items ≡ l.fn.self.types.items;
  standing : over_terms (back (drop l.mark (standing_of l.self).trail) (standing_of l.self).way.env) (take l.mark (standing_of l.self).trail) (standing_of l.self)
      ≡ over_terms (back (drop l.mark (standing_of l.fn.self).trail) (standing_of l.fn.self).way.env) (take l.mark (standing_of l.fn.self).trail) (standing_of l.fn.self);
  leads : back (all_kept_in l.fn.self.ledger.nodes l.ahead.items) (standing_of l.self).way.env ≡ (standing_of l.fn.self).way.env;
  are_ahead : AreKept l.fn.self.ledger.nodes l.fn.self.types.items l.ahead.items;
}

abbrev pub decreases-loop-self : goal.decreases-loop-self
decreases-loop-self l = length l.self.trail.items
