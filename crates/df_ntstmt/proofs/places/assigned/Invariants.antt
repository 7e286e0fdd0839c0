use Rattle.std.proofs.Common.{◌≡◌, map, drop}
use Rattle.df_ntree.specs.Expr.{expr_of}
use Rattle.df_ntstmt.specs.mirror.Steps.{in_front}
use Rattle.df_ntstmt.specs.mirror.Sides.{places_in}
use Rattle.df_ntstmt.proofs.places.assigned.Given as goal

-- the places so far, in front of those that are left, are all
abbrev pub invariant-loop-e : goal.invariant-loop-e
invariant-loop-e l =
    in_front l.places.items (places_in l.env (map expr_of (drop l.e-index l.targets))) ≡ places_in l.env (map expr_of l.targets)
