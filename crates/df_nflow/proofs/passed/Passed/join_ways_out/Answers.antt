use Rattle.df_nflow.proofs.Words.{grows_then, grows_same}
use Rattle.df_nflow.proofs.passed.Passed.join_ways_out.Goals as goal

pub returns-in_err-ways-clause-grows : goal.returns-in_err-ways-clause-grows
returns-in_err-ways-clause-grows c = grows_same _ _ c.ways_out.ensures.nodes

pub returns-clause-grows : goal.returns-clause-grows
returns-clause-grows c = grows_then _ _ _ (grows_same _ _ c.ways_out.ensures.nodes) c.join_all.ensures.grows
