use Rattle.df_nenc.proofs.Words.{sym, subst, ◌∙◌, sort_of_type, IsTerm}
use Rattle.df_nenc.proofs.Sorts.{no_truths_of}
use Rattle.df_nenc.proofs.comparison.equal_in.Goals as goal

pub iff-requires : goal.iff-requires
iff-requires c = record { left = subst (λ v. IsTerm (sort_of_type v) c.args.nodes.now c.args.left) c.in-Bool.is c.requires.left; right = subst (λ v. IsTerm (sort_of_type v) c.args.nodes.now c.args.right) c.in-Bool.is c.requires.right }

pub equal-requires : goal.equal-requires
equal-requires c = record { left = c.requires.left.below; right = c.requires.right.below; alike = c.requires.left.sort_is ∙ sym c.requires.right.sort_is; values = λ e. no_truths_of c.args.ty c.in-Newtype.is (sym c.requires.left.sort_is ∙ e) }
