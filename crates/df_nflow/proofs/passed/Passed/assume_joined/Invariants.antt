use Rattle.df_nflow.proofs.Words.{◌≡◌, drop, Grows, tree_at, sort_of_type, assume_joined_at, AreThere, standing_of, also, AreArrived, arrivals_in}
use Rattle.df_nflow.proofs.passed.Passed.assume_joined.Given as goal

-- with what is left said too, all is
abbrev pub invariant-loop-way : goal.invariant-loop-way
invariant-loop-way l = record {
  grows : Grows l.fn.self.ledger.nodes l.self.ledger.nodes;
  are : AreArrived l.fn.self.ledger.nodes l.fn.self.types.items (drop l.way-index l.arrived);
  there : AreThere l.place (sort_of_type l.ty) (arrivals_in l.fn.self.ledger.nodes (drop l.way-index l.arrived));
  said : also (assume_joined_at l.ty l.place (tree_at l.fn.self.ledger.nodes l.term) (arrivals_in l.fn.self.ledger.nodes (drop l.way-index l.arrived))) (standing_of l.self)
      ≡ also (assume_joined_at l.ty l.place (tree_at l.fn.self.ledger.nodes l.term) (arrivals_in l.fn.self.ledger.nodes l.arrived)) (standing_of l.fn.self);
}
