use Rattle.df_nenc.proofs.Sorts.{takes_typed}
use Rattle.df_nenc.proofs.operation.is_of.Goals as goal

pub one-requires : goal.one-requires
one-requires c = takes_typed c.args.ty c.args.nodes.now c.args.value c.requires.typed c.requires.value
