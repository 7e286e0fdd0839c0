use Rattle.std.proofs.Common.{refl}
use Rattle.df_search.proofs.Apart.{first_apart, second_apart}
use Rattle.df_search.proofs.ends.is_apart.Goals as goal

pub returns-then-lacks_last : goal.returns-then-lacks_last
returns-then-lacks_last c = λ holds. first_apart c.args.branch.now c.args.other.now (c.if-lacks_last.ensures refl)

pub returns-else-lacks_last : goal.returns-else-lacks_last
returns-else-lacks_last c = λ holds. second_apart c.args.branch.now c.args.other.now (c.lacks_last-else-lacks_last.ensures holds)
