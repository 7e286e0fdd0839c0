use Rattle.std.proofs.Common.{take}
use Rattle.df_classes.specs.mirror.Users.{AddsUser}
use Rattle.df_classes.proofs.users.add_user.Given as goal

abbrev pub invariant-loop-part : goal.invariant-loop-part
invariant-loop-part l = AddsUser l.initial.users l.users (take l.part-index l.parts) l.user
