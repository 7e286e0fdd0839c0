use Rattle.df_nenc.proofs.Words.{sym, subst, refl, IfOk, Numbers, Plus, summed, tree_at, Stands}
use Rattle.df_form.specs.declared.node.Op.TheVariants as ops
use Rattle.df_form.specs.declared.node.Sort.TheVariants as sorts
use Rattle.df_nenc.proofs.Lemmas.{term_stays, is_term, tree_stays, takes_two, two_as}
use Rattle.df_nenc.proofs.operation.summed.Goals as goal

pub two-requires : goal.two-requires
two-requires c = takes_two ops.Plus sorts.Number c.args.nodes.now c.args.left c.args.right refl c.requires.left c.requires.right

pub two-requires-in-Minus : goal.two-requires-in-Minus
two-requires-in-Minus c = takes_two ops.Plus sorts.Number c.negative.new.nodes c.args.left c.in_ok-right-in-Minus.right refl (term_stays Numbers c.args.nodes.now c.negative.new.nodes c.args.left c.negative.ensures.grows c.requires.left) (is_term _ Numbers _ _ c.in_ok-right-in-Minus.ensures.stands refl)

pub returns-in-Plus-clause-stands : goal.returns-in-Plus-clause-stands
returns-in-Plus-clause-stands c = subst (λ v. IfOk c.two.result (λ n. Stands c.two.new.nodes (summed v (tree_at c.args.nodes.now c.args.left) (tree_at c.args.nodes.now c.args.right)) n)) (sym c.in-Plus.is) c.two.ensures.stands

pub returns-in_ok-right-in-Minus-clause-stands : goal.returns-in_ok-right-in-Minus-clause-stands
returns-in_ok-right-in-Minus-clause-stands c = subst (λ v. IfOk c.two-in-Minus.result (λ n. Stands c.two-in-Minus.new.nodes (summed v (tree_at c.args.nodes.now c.args.left) (tree_at c.args.nodes.now c.args.right)) n)) (sym c.in-Minus.is) (two_as Plus c.two-in-Minus.result c.two-in-Minus.new.nodes _ _ _ _ (tree_stays Numbers c.args.nodes.now c.negative.new.nodes c.args.left c.negative.ensures.grows c.requires.left) c.in_ok-right-in-Minus.ensures.stands.tree_is c.two-in-Minus.ensures.stands)
