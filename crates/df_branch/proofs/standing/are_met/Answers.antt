use Rattle.std.proofs.Common.{[], refl}
use Rattle.df_back.specs.BackView.{numbers_of}
use Rattle.df_branch.proofs.standing.are_met.Goals as goal

pub returns-then-all_hold : goal.returns-then-all_hold
returns-then-all_hold c = λ holds. (numbers_of [], c.if-all_hold.ensures refl)

pub returns-else-all_hold : goal.returns-else-all_hold
returns-else-all_hold c = λ holds. (numbers_of c.args.point.now, c.all_hold-else-all_hold.ensures holds)
