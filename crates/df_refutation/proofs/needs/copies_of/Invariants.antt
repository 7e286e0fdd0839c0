use Rattle.std.proofs.Common.{◌≡◌, map, take}
use Rattle.df_form.specs.Log.{combination_of}
use Rattle.df_refutation.proofs.needs.copies_of.Given as goal

abbrev pub invariant-loop-combination : goal.invariant-loop-combination
invariant-loop-combination l = map combination_of l.copies.items ≡ map combination_of (take l.combination-index l.combinations)
