use Rattle.std.proofs.Common.{drop}
use Rattle.df_search.proofs.Apart.{RestApart}
use Rattle.df_search.proofs.ends.is_apart_from.Given as goal

abbrev pub invariant-loop-other : goal.invariant-loop-other
invariant-loop-other l = RestApart l.branch (drop l.other-index l.others) l.others
