use Rattle.std.proofs.Common.{◌≡◌, ◌++◌, map, drop}
use Rattle.df_lang.specs.StmtView.{variable_of}
use Rattle.df_ntstmt.specs.mirror.Sides.{variable_from}
use Rattle.df_ntstmt.proofs.places.variables.Given as goal

abbrev pub invariant-loop-place : goal.invariant-loop-place
invariant-loop-place l =
    map variable_of l.variables.items ++ map variable_from (drop l.place-index l.places) ≡ map variable_from l.places
