use Rattle.df_nflow.proofs.Words.{◌≡◌, true, drop, Grows, standing_of, are_at, changed_in, havoc}
use Rattle.df_nflow.proofs.Going.{Moving}
use Rattle.df_nflow.proofs.passed.Passed.havoc.Given as goal

-- what goes on with the locals that are left goes on with all
abbrev pub invariant-loop-one : goal.invariant-loop-one
invariant-loop-one l = record {
  grows : Grows l.fn.self.ledger.nodes l.self.ledger.nodes;
  at : are_at l.self.types.items (changed_in (drop l.one-index l.changed)) ≡ true;
  moving : Moving (standing_of l.fn.self) (havoc (changed_in l.changed) (standing_of l.fn.self).fresh (standing_of l.fn.self).way) (standing_of l.self) (havoc (changed_in (drop l.one-index l.changed)) (standing_of l.self).fresh (standing_of l.self).way);
}
