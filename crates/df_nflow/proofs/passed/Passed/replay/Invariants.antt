use Rattle.df_nflow.proofs.Words.{◌≡◌, [], drop, over, saying, standing_of, Moves, all_kept_in, back}
use Rattle.df_nflow.proofs.passed.Passed.replay.Given as goal

-- the locals of the places behind have their terms
abbrev pub invariant-loop-place : goal.invariant-loop-place
invariant-loop-place l = record {
  nodes : l.self.ledger.nodes ≡ l.fn.self.ledger.nodes;
  moves : Moves (standing_of l.fn.self) (saying [] (standing_of l.fn.self).fresh (over (back (all_kept_in l.fn.self.ledger.nodes (drop l.place l.ahead)) (standing_of l.fn.self).way.env) (standing_of l.fn.self).way)) (standing_of l.self);
}
