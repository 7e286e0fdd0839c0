use Rattle.std.proofs.Common.{take}
use Rattle.df_refutation.specs.History.{AreShifted}
use Rattle.df_refutation.proofs.history.shifted.Given as goal

abbrev pub invariant-loop-member : goal.invariant-loop-member
invariant-loop-member l = AreShifted l.start (take l.member-index l.member-items) l.members.items
