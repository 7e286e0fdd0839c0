use Rattle.std.proofs.Common.{take}
use Rattle.df_refutation.specs.Needed.{AreRenumbered}
use Rattle.df_refutation.proofs.kept.renumbered.Given as goal

abbrev pub invariant-loop-member : goal.invariant-loop-member
invariant-loop-member l = AreRenumbered l.numbers (take l.member-index l.member-items) l.members.items
