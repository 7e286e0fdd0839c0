use Rattle.df_nenc.proofs.Sorts.{takes_alike}
use Rattle.df_nenc.proofs.comparison.equal.Goals as goal

pub two-requires : goal.two-requires
two-requires c = takes_alike c.args.nodes.now c.args.left c.args.right c.requires.left c.requires.right c.requires.alike c.requires.values
