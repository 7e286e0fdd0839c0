use Rattle.df_form.specs.declared.node.Sort.TheVariants as sorts
use Rattle.df_nenc.proofs.Sorts.{takes_two}
use Rattle.df_nenc.proofs.making.of_formulas.Goals as goal

pub two-requires : goal.two-requires
two-requires c = takes_two c.args.op sorts.Truth c.args.nodes.now c.args.left c.args.right c.requires.takes c.requires.left c.requires.right
