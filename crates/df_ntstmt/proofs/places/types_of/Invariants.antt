use Rattle.std.proofs.Common.{◌≡◌, ◌++◌, drop}
use Rattle.df_ntstmt.specs.mirror.Sides.{types_of_places}
use Rattle.df_ntstmt.proofs.places.types_of.Given as goal

abbrev pub invariant-loop-place : goal.invariant-loop-place
invariant-loop-place l =
    l.types.items ++ types_of_places (drop l.place-index l.places) ≡ types_of_places l.places
