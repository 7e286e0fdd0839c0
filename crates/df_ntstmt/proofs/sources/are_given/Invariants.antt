use Rattle.std.proofs.Common.{◌≡◌, map, drop, Some}
use Rattle.df_ntyping.specs.rules.Values.{are_given}
use Rattle.df_ntstmt.proofs.sources.are_given.Given as goal

abbrev pub invariant-loop-i : goal.invariant-loop-i
invariant-loop-i l =
    are_given (drop l.i l.places) (map Some (drop l.i l.results)) ≡ are_given l.places (map Some l.results)
