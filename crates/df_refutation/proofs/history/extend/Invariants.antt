use Rattle.std.proofs.Common.{map}
use Rattle.df_form.specs.Log.{combination_of}
use Rattle.df_refutation.proofs.Histories.{ExtendsPart}
use Rattle.df_refutation.proofs.history.extend.Given as goal

abbrev pub invariant-loop-way : goal.invariant-loop-way
invariant-loop-way l = ExtendsPart l.start (map combination_of l.ways) l.way-index (map combination_of l.initial.combinations.items) (map combination_of l.combinations.items)
