use Rattle.std.proofs.Common.{◌≡◌, map, drop, take, length}
use Rattle.df_axiom.specs.Template.{need_of}
use Rattle.df_axiom.specs.Instance.{built}
use Rattle.df_axiom.proofs.building.build.Given as goal

abbrev pub invariant-loop-need : goal.invariant-loop-need
invariant-loop-need g l =
    let before = g.A.NodeTable.nodes l.initial.nodes in
    let now = g.A.NodeTable.nodes l.nodes in
    (built now l.places.items (map need_of (drop l.need-index l.needed)) ≡ built before l.initial.places.items (map need_of l.needed))
    × (take (length before) now ≡ before)
