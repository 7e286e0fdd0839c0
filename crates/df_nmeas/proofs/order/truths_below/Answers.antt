use Rattle.df_nmeas.proofs.Words.{refl, Truths, And, is_term, tree_stays, two_as, term_stays, grows_then}
use Rattle.df_nmeas.proofs.order.truths_below.Goals as goal

pub both-requires : goal.both-requires
both-requires c = record { left = is_term _ Truths _ _ c.in_ok-is_false.ensures.stands refl; right = term_stays Truths c.args.nodes.now c.negation.new.nodes c.args.before c.negation.ensures.grows c.requires.before }

pub returns : goal.returns
returns c = record { stands = two_as And c.both.result c.both.new.nodes _ _ _ _ c.in_ok-is_false.ensures.stands.tree_is (tree_stays Truths c.args.nodes.now c.negation.new.nodes c.args.before c.negation.ensures.grows c.requires.before) c.both.ensures.stands; grows = grows_then _ _ _ c.negation.ensures.grows c.both.ensures.grows }
