use Rattle.df_nenc.proofs.Words.{refl}
use Rattle.df_form.specs.declared.node.Op.TheVariants as ops
use Rattle.df_form.specs.declared.node.Sort.TheVariants as sorts
use Rattle.df_nenc.proofs.Sorts.{takes_one}
use Rattle.df_nenc.proofs.operation.negation.Goals as goal

pub one-requires : goal.one-requires
one-requires c = takes_one ops.Not sorts.Truth c.args.nodes.now c.args.formula refl c.requires
