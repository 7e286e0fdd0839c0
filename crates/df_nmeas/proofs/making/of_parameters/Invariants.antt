use Rattle.df_nmeas.proofs.Words.{◌≡◌, ◌++◌, drop, map, param_of, members_from}
use Rattle.df_nmeas.proofs.making.of_parameters.Given as goal

abbrev pub invariant-loop-i : goal.invariant-loop-i
invariant-loop-i l = l.members.items ++ members_from l.i (map param_of (drop l.i l.parameters)) l.terms ≡ members_from 0 (map param_of l.parameters) l.terms
