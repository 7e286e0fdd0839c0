use Rattle.df_nenc.proofs.Words.{refl, ◌∙◌, Numbers, Truths, And, at_most}
use Rattle.df_nenc.proofs.Lemmas.{grows_then, stays, is_term, tree_stays, term_stays, two_as}
use Rattle.df_nenc.proofs.condition.is_code.Goals as goal

pub at_most-requires-2 : goal.at_most-requires-2
at_most-requires-2 c = record { left = term_stays Numbers c.args.nodes.now c.literal-2.new.nodes c.args.number (grows_then c.args.nodes.now c.at_most.new.nodes c.literal-2.new.nodes (grows_then c.args.nodes.now c.literal.new.nodes c.at_most.new.nodes c.literal.ensures.grows c.at_most.ensures.grows) c.literal-2.ensures.grows) c.requires; right = is_term _ Numbers _ _ c.in_ok-last.ensures.stands refl }

pub at_most-requires : goal.at_most-requires
at_most-requires c = record { left = is_term _ Numbers _ _ c.in_ok-first.ensures.stands refl; right = term_stays Numbers c.args.nodes.now c.literal.new.nodes c.args.number c.literal.ensures.grows c.requires }

pub both-requires : goal.both-requires
both-requires c = record { left = term_stays Truths c.at_most.new.nodes c.at_most-2.new.nodes c.in_ok-is_from_first.is_from_first (grows_then c.at_most.new.nodes c.literal-2.new.nodes c.at_most-2.new.nodes c.literal-2.ensures.grows c.at_most-2.ensures.grows) (is_term _ Truths _ _ c.in_ok-is_from_first.ensures.stands refl); right = is_term _ Truths _ _ c.in_ok-is_to_last.ensures.stands refl }

pub returns : goal.returns
returns c =
    let low = c.in_ok-first.ensures.stands.tree_is in
    let same = tree_stays Numbers c.args.nodes.now c.literal.new.nodes c.args.number c.literal.ensures.grows c.requires in
    let later = tree_stays Numbers c.args.nodes.now c.literal-2.new.nodes c.args.number (grows_then c.args.nodes.now c.at_most.new.nodes c.literal-2.new.nodes (grows_then c.args.nodes.now c.literal.new.nodes c.at_most.new.nodes c.literal.ensures.grows c.at_most.ensures.grows) c.literal-2.ensures.grows) c.requires in
    let high = c.in_ok-last.ensures.stands.tree_is in
    let from = (stays c.at_most.new.nodes c.at_most-2.new.nodes _ c.in_ok-is_from_first.is_from_first (grows_then c.at_most.new.nodes c.literal-2.new.nodes c.at_most-2.new.nodes c.literal-2.ensures.grows c.at_most-2.ensures.grows) c.in_ok-is_from_first.ensures.stands).tree_is in
    let to = c.in_ok-is_to_last.ensures.stands.tree_is in
    record { stands = two_as And c.both.result c.both.new.nodes _ _ _ _ (from ∙ (λ i. at_most (low i) (same i))) (to ∙ (λ i. at_most (later i) (high i))) c.both.ensures.stands; grows = grows_then _ _ _ (grows_then _ _ _ (grows_then _ _ _ (grows_then _ _ _ c.literal.ensures.grows c.at_most.ensures.grows) c.literal-2.ensures.grows) c.at_most-2.ensures.grows) c.both.ensures.grows }

pub returns-in_err-first-clause-grows : goal.returns-in_err-first-clause-grows
returns-in_err-first-clause-grows c = c.literal.ensures.grows

pub returns-in_err-is_from_first-clause-grows : goal.returns-in_err-is_from_first-clause-grows
returns-in_err-is_from_first-clause-grows c = grows_then _ _ _ c.literal.ensures.grows c.at_most.ensures.grows

pub returns-in_err-last-clause-grows : goal.returns-in_err-last-clause-grows
returns-in_err-last-clause-grows c = grows_then _ _ _ (grows_then _ _ _ c.literal.ensures.grows c.at_most.ensures.grows) c.literal-2.ensures.grows

pub returns-in_err-is_to_last-clause-grows : goal.returns-in_err-is_to_last-clause-grows
returns-in_err-is_to_last-clause-grows c = grows_then _ _ _ (grows_then _ _ _ (grows_then _ _ _ c.literal.ensures.grows c.at_most.ensures.grows) c.literal-2.ensures.grows) c.at_most-2.ensures.grows
