use Rattle.std.proofs.Common.{map, take}
use Rattle.df_form.specs.Log.{combination_of}
use Rattle.df_refutation.specs.Needed.{KeepsSome}
use Rattle.df_refutation.proofs.kept.Kept.of.Given as goal

abbrev pub invariant-loop-number : goal.invariant-loop-number
invariant-loop-number l = KeepsSome l.given (map combination_of (take l.number l.combinations)) (map combination_of l.kept.combinations.items) l.kept.numbers.items
