use Rattle.std.proofs.Common.{◌≡◌, ◌++◌, map, drop}
use Rattle.df_nenv.specs.Environments.{local_of}
use Rattle.df_ntstmt.specs.mirror.Sides.{returned_places}
use Rattle.df_ntstmt.proofs.places.returned.Given as goal

abbrev pub invariant-loop-result : goal.invariant-loop-result
invariant-loop-result l =
    l.places.items ++ returned_places l.env l.pos (map local_of (drop l.result-index l.result-items)) ≡ returned_places l.env l.pos (map local_of l.result-items)
