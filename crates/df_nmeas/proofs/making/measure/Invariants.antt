use Rattle.df_nmeas.proofs.Words.{drop, trees_in, AreOver, measures_in}
use Rattle.df_nmeas.proofs.Pairs.{Measuring}
use Rattle.df_nmeas.proofs.making.measure.Given as goal

-- what was made so far, and then the rest, is all
abbrev pub invariant-loop-measure : goal.invariant-loop-measure
invariant-loop-measure l = record {
  over : AreOver l.nodes l.terms (measures_in (drop l.measure-index l.measures));
  going : Measuring (trees_in l.fn.nodes l.terms) l.fn.nodes l.nodes l.members.items l.fn.out.items l.out.items (measures_in l.measures) (measures_in (drop l.measure-index l.measures));
}
