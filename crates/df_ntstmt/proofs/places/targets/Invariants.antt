use Rattle.std.proofs.Common.{◌≡◌, ◌++◌, map, drop}
use Rattle.df_lang.specs.StmtView.{target_of}
use Rattle.df_ntstmt.specs.mirror.Sides.{target_from}
use Rattle.df_ntstmt.proofs.places.targets.Given as goal

abbrev pub invariant-loop-place : goal.invariant-loop-place
invariant-loop-place l =
    map target_of l.targets.items ++ map target_from (drop l.place-index l.places) ≡ map target_from l.places
