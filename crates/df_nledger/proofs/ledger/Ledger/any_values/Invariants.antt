use Rattle.df_nledger.proofs.Words.{◌≡◌, ◌<◌, ◌++◌, map, drop, length, AllByRecursion, param_of, Grows, path_in, trees_at, ledger_of, with_fresh, any_values}
use Rattle.df_nledger.proofs.ledger.Ledger.any_values.Given as goal

-- with the values that are left there are all
abbrev pub invariant-loop-param : goal.invariant-loop-param
invariant-loop-param l =
    let path = path_in l.fn.self.nodes l.fn.self.path in
    let rest = any_values path (map param_of (drop l.param-index l.params)) (length l.self.frees.items) in
    let whole = any_values path (map param_of l.params) (length l.fn.self.frees.items) in
    record {
      grows : Grows l.fn.self.nodes l.self.nodes;
      ledger : with_fresh rest.said rest.fresh (ledger_of l.self) ≡ with_fresh whole.said whole.fresh (ledger_of l.fn.self);
      terms : trees_at l.self.nodes l.terms.items ++ rest.terms ≡ whole.terms;
      below : AllByRecursion (λ n. n < length l.self.nodes) l.terms.items;
    }
