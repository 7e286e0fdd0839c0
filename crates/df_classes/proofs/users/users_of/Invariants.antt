use Rattle.df_classes.specs.mirror.Users.{AreUsersBelow}
use Rattle.df_classes.proofs.users.users_of.Given as goal

abbrev pub invariant-loop-number : goal.invariant-loop-number
invariant-loop-number l = AreUsersBelow l.nodes l.users l.number
