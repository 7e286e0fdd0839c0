use Rattle.df_nenc.proofs.Words.{refl, Numbers, Times}
use Rattle.df_form.specs.declared.node.Op.TheVariants as ops
use Rattle.df_form.specs.declared.node.Sort.TheVariants as sorts
use Rattle.df_nenc.proofs.Lemmas.{term_stays, is_term, tree_stays, takes_two, two_as}
use Rattle.df_nenc.proofs.operation.negative.Goals as goal

pub two-requires : goal.two-requires
two-requires c = takes_two ops.Times sorts.Number c.literal.new.nodes c.in_ok-sign.sign c.args.number refl (is_term _ Numbers _ _ c.in_ok-sign.ensures.stands refl) (term_stays Numbers c.args.nodes.now c.literal.new.nodes c.args.number c.literal.ensures.grows c.requires)

pub returns-clause-stands : goal.returns-clause-stands
returns-clause-stands c = two_as Times c.two.result c.two.new.nodes _ _ _ _ c.in_ok-sign.ensures.stands.tree_is (tree_stays Numbers c.args.nodes.now c.literal.new.nodes c.args.number c.literal.ensures.grows c.requires) c.two.ensures.stands
