use Rattle.std.proofs.Common.{map}
use Rattle.df_level.specs.Levels.{level_rows}
use Rattle.df_back.proofs.Steps.{IsBack}
use Rattle.df_back.proofs.substitution.back.Given as goal

abbrev pub invariant-loop-number : goal.invariant-loop-number
invariant-loop-number l = IsBack l.count (level_rows l.first) l.variables (map level_rows l.others) l.number l.numbers.items

abbrev pub decreases-loop-number : goal.decreases-loop-number
decreases-loop-number l = l.number
