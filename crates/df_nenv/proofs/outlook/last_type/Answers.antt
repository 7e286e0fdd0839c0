use Rattle.df_nenv.proofs.Casting.{last_is}
use Rattle.df_nenv.proofs.outlook.last_type.Goals as goal

pub loop-tree-init : goal.loop-tree-init
loop-tree-init c = last_is c.args.env.now c.args.types.now
