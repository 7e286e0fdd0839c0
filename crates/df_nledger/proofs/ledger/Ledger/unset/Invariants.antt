use Rattle.df_nledger.proofs.Words.{◌≡◌, ◌<◌, ◌++◌, map, drop, length, AllByRecursion, Grows, trees_at, some_term, sort_of_type, ledger_of}
use Rattle.df_nledger.proofs.ledger.Ledger.unset.Given as goal

-- with a term for each local that is left, there is one for all
abbrev pub invariant-loop-place : goal.invariant-loop-place
invariant-loop-place l = record {
  grows : Grows l.fn.self.nodes l.self.nodes;
  ledger : ledger_of l.self ≡ ledger_of l.fn.self;
  terms : trees_at l.self.nodes l.terms.items ++ map (λ ty. some_term (sort_of_type ty)) (drop l.place l.types) ≡ trees_at l.fn.self.nodes l.fn.terms.items ++ map (λ ty. some_term (sort_of_type ty)) (drop (length l.fn.terms.items) l.types);
  below : AllByRecursion (λ n. n < length l.self.nodes) l.terms.items;
}
