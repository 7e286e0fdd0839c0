use Rattle.std.proofs.Common.{◌≡◌, ◌++◌, take}
use Rattle.df_trail.specs.Trail.{others_of}
use Rattle.df_trail.proofs.join.add_others.Given as goal

abbrev pub invariant-loop-other : goal.invariant-loop-other
invariant-loop-other l = l.kept.items ≡ l.initial.kept.items ++ others_of l.literal (take l.other-index l.literals)
