use Rattle.std.proofs.Common.{◌≡◌, map, take}
use Rattle.df_level.specs.Division.{quotient_entry}
use Rattle.df_level.proofs.division.quotients.Given as goal

abbrev pub invariant-loop-entry : goal.invariant-loop-entry
invariant-loop-entry l = l.quotients.items ≡ map (quotient_entry l.divisor) (take l.entry-index l.entries)
