use Rattle.df_nmeas.proofs.Words.{rules}
use Rattle.df_nmeas.proofs.making.comparison_measure.Goals as goal

pub returns-in-Equal-clause-measures : goal.returns-in-Equal-clause-measures
returns-in-Equal-clause-measures c = search rules
