use Rattle.std.proofs.Common.{arith}
use Rattle.df_classes.proofs.NumberNodes.{all_users}
use Rattle.df_classes.proofs.users.users_of.Goals as goal

pub returns : goal.returns
returns c = all_users c.args.nodes.now c.loop-number.users c.loop-number.number (omega arith) c.loop-number.invariant
