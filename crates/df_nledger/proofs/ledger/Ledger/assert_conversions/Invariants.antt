use Rattle.df_nledger.proofs.Words.{◌≡◌, [], map, drop, conversion_of, Grows, trees_at, AreConverted, ledger_of, way_of, saying, assert_conversions}
use Rattle.df_nledger.proofs.ledger.Ledger.assert_conversions.Given as goal

-- with what is left said too, all is
abbrev pub invariant-loop-i : goal.invariant-loop-i
invariant-loop-i l = record {
  grows : Grows l.fn.self.nodes l.self.nodes;
  over : AreConverted l.self.nodes (map conversion_of (drop l.i l.conversions)) (drop l.i l.terms);
  said : saying (assert_conversions l.pos (way_of l.fn.self []) (map conversion_of (drop l.i l.conversions)) (trees_at l.fn.self.nodes (drop l.i l.terms))) (ledger_of l.self) ≡ saying (assert_conversions l.pos (way_of l.fn.self []) (map conversion_of l.conversions) (trees_at l.fn.self.nodes l.terms)) (ledger_of l.fn.self);
}
