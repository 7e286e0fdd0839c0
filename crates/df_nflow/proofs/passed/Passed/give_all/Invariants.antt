use Rattle.df_nflow.proofs.Words.{◌≡◌, [], true, map, drop, target_of, Grows, AreLocals, trees_at, standing_of, are_targets_over, target_types, give_all}
use Rattle.df_nflow.proofs.Targets.{Giving}
use Rattle.df_nflow.proofs.passed.Passed.give_all.Given as goal

-- what goes on with the places that are left goes on with all
abbrev pub invariant-loop-i : goal.invariant-loop-i
invariant-loop-i l = record {
  grows : Grows l.fn.self.ledger.nodes l.self.ledger.nodes;
  over : are_targets_over l.self.types.items (map target_of (drop l.i l.targets)) ≡ true;
  locals : AreLocals l.self.ledger.nodes (target_types (map target_of (drop l.i l.targets))) (drop l.i l.terms);
  giving : Giving (standing_of l.fn.self) (give_all [] (map target_of l.targets) (trees_at l.fn.self.ledger.nodes l.terms) (standing_of l.fn.self).fresh (standing_of l.fn.self).way) (standing_of l.self) (map target_of (drop l.i l.targets)) (trees_at l.fn.self.ledger.nodes (drop l.i l.terms)) l.named.keys;
}
