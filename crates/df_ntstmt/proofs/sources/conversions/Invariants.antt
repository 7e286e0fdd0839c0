use Rattle.std.proofs.Common.{◌≡◌, ◌++◌, map, drop, Some}
use Rattle.df_lang.specs.StmtView.{conversion_of}
use Rattle.df_ntstmt.specs.mirror.Sides.{conversions}
use Rattle.df_ntstmt.proofs.sources.conversions.Given as goal

abbrev pub invariant-loop-i : goal.invariant-loop-i
invariant-loop-i l =
    map conversion_of l.all.items ++ conversions (drop l.i l.places) (map Some (drop l.i l.results)) ≡ conversions l.places (map Some l.results)
