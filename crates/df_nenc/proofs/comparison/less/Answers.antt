use Rattle.df_nenc.proofs.Words.{refl, Truths}
use Rattle.df_nterm.specs.Term.{Not}
use Rattle.df_nenc.proofs.Lemmas.{is_term, one_as}
use Rattle.df_nenc.proofs.comparison.less.Goals as goal

pub negation-requires : goal.negation-requires
negation-requires c = is_term _ Truths _ _ c.in_ok-is_at_most.ensures.stands refl

pub returns-clause-stands : goal.returns-clause-stands
returns-clause-stands c = one_as Not c.negation.result c.negation.new.nodes _ _ c.in_ok-is_at_most.ensures.stands.tree_is c.negation.ensures.stands
