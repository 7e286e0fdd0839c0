use Rattle.std.proofs.Common.{◌≡◌, [], drop}
use Rattle.df_axiom.specs.Instance.{found_from}
use Rattle.df_axiom.proofs.matching.pieces.Given as goal

-- what is found so far, and what is left
abbrev pub invariant-loop-piece : goal.invariant-loop-piece
invariant-loop-piece g l =
    let nodes = g.A.NodeTable.nodes l.nodes in
    found_from nodes l.terms l.places.items (drop l.piece-index l.pieces) ≡ found_from nodes l.terms [] l.pieces
