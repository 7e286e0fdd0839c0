use Rattle.df_nflow.proofs.Words.{◌≡◌, ◌<◌, ◌++◌, true, map, drop, length, AllByRecursion, Changed, trees_at, trees_in, are_at, changed_in}
use Rattle.df_nflow.proofs.passed.Passed.arrived.Given as goal

-- with the terms of the locals that are left there are all
abbrev pub invariant-loop-one : goal.invariant-loop-one
invariant-loop-one l = record {
  at : are_at l.self.types.items (changed_in (drop l.one-index l.changed)) ≡ true;
  terms : trees_at l.self.ledger.nodes l.terms.items ++ map (λ (c : Changed). trees_in l.self.ledger.nodes l.self.terms.items c.local) (changed_in (drop l.one-index l.changed)) ≡ map (λ (c : Changed). trees_in l.self.ledger.nodes l.self.terms.items c.local) (changed_in l.changed);
  below : AllByRecursion (λ n. n < length l.self.ledger.nodes) l.terms.items;
}
