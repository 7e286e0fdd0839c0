use Rattle.df_nledger.proofs.Words.{◌≡◌, ◌<◌, ◌++◌, map, drop, length, AllByRecursion, expr_of, Grows, trees_at, trees_in, term_of, AreValues, ledger_of, way_of, saying, assert_exprs}
use Rattle.df_nledger.proofs.ledger.Ledger.values.Given as goal

-- with the values that are left there are all
abbrev pub invariant-loop-expr : goal.invariant-loop-expr
invariant-loop-expr l = record {
  grows : Grows l.fn.self.nodes l.self.nodes;
  over : AreValues l.self.nodes l.terms (map expr_of (drop l.expr-index l.exprs));
  said : saying (assert_exprs (way_of l.fn.self l.terms) (map expr_of (drop l.expr-index l.exprs))) (ledger_of l.self) ≡ saying (assert_exprs (way_of l.fn.self l.terms) (map expr_of l.exprs)) (ledger_of l.fn.self);
  values : trees_at l.self.nodes l.values.items ++ map (term_of (trees_in l.fn.self.nodes l.terms)) (map expr_of (drop l.expr-index l.exprs)) ≡ map (term_of (trees_in l.fn.self.nodes l.terms)) (map expr_of l.exprs);
  below : AllByRecursion (λ n. n < length l.self.nodes) l.values.items;
}
