use Rattle.df_trig.specs.Endings.{AreEndings}
use Rattle.df_trig.proofs.endings.endings.Given as goal

abbrev pub invariant-loop-number : goal.invariant-loop-number
invariant-loop-number l = AreEndings l.nodes l.number l.lists
