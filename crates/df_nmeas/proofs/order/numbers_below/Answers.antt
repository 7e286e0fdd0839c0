use Rattle.df_nmeas.proofs.Words.{refl, ◌∙◌, Numbers, Truths, And, at_most, grows_then, stays, is_term, tree_stays, two_as, term_stays}
use Rattle.df_nmeas.proofs.order.numbers_below.Goals as goal

pub at_most-requires : goal.at_most-requires
at_most-requires c = record { left = is_term _ Numbers _ _ c.in_ok-zero.ensures.stands refl; right = term_stays Numbers c.args.nodes.now c.literal.new.nodes c.args.before (grows_then c.args.nodes.now c.less.new.nodes c.literal.new.nodes c.less.ensures.grows c.literal.ensures.grows) c.requires.before }

pub both-requires : goal.both-requires
both-requires c = record { left = term_stays Truths c.less.new.nodes c.at_most.new.nodes c.in_ok-is_less.is_less (grows_then c.less.new.nodes c.literal.new.nodes c.at_most.new.nodes c.literal.ensures.grows c.at_most.ensures.grows) (is_term _ Truths _ _ c.in_ok-is_less.ensures.stands refl); right = is_term _ Truths _ _ c.in_ok-is_natural.ensures.stands refl }

pub returns : goal.returns
returns c =
    let zero = c.in_ok-zero.ensures.stands.tree_is in
    let kept = tree_stays Numbers c.args.nodes.now c.literal.new.nodes c.args.before (grows_then c.args.nodes.now c.less.new.nodes c.literal.new.nodes c.less.ensures.grows c.literal.ensures.grows) c.requires.before in
    let is_less = (stays c.less.new.nodes c.at_most.new.nodes _ c.in_ok-is_less.is_less (grows_then c.less.new.nodes c.literal.new.nodes c.at_most.new.nodes c.literal.ensures.grows c.at_most.ensures.grows) c.in_ok-is_less.ensures.stands).tree_is in
    record { stands = two_as And c.both.result c.both.new.nodes _ _ _ _ is_less (c.in_ok-is_natural.ensures.stands.tree_is ∙ (λ i. at_most (zero i) (kept i))) c.both.ensures.stands; grows = grows_then _ _ _ (grows_then _ _ _ (grows_then _ _ _ c.less.ensures.grows c.literal.ensures.grows) c.at_most.ensures.grows) c.both.ensures.grows }

pub returns-in_err-zero-clause-grows : goal.returns-in_err-zero-clause-grows
returns-in_err-zero-clause-grows c = grows_then _ _ _ c.less.ensures.grows c.literal.ensures.grows

pub returns-in_err-is_natural-clause-grows : goal.returns-in_err-is_natural-clause-grows
returns-in_err-is_natural-clause-grows c = grows_then _ _ _ (grows_then _ _ _ c.less.ensures.grows c.literal.ensures.grows) c.at_most.ensures.grows
