use Rattle.df_nmeas.proofs.Words.{refl, ◌∙◌, Truths, sort_of_type, Or, both, same_of, grows_then, tree_stays, stays, is_term, two_as, term_stays}
use Rattle.df_nmeas.proofs.Sides.{same_is, below_is}
use Rattle.df_nmeas.proofs.order.in_front.Goals as goal

pub both-requires : goal.both-requires
both-requires c = record { left = is_term _ Truths _ _ c.in_ok-leaves.ensures.stands (same_is (sort_of_type c.args.now.now.ty) (sort_of_type c.args.before.now.ty) _ _); right = term_stays Truths c.args.nodes.now c.is_same.new.nodes c.args.others (grows_then c.args.nodes.now c.is_below.new.nodes c.is_same.new.nodes c.is_below.ensures.grows c.is_same.ensures.grows) c.requires.others }

pub either-requires : goal.either-requires
either-requires c = record { left = term_stays Truths c.is_below.new.nodes c.both.new.nodes c.in_ok-decides.decides (grows_then c.is_below.new.nodes c.is_same.new.nodes c.both.new.nodes c.is_same.ensures.grows c.both.ensures.grows) (is_term _ Truths _ _ c.in_ok-decides.ensures.stands (below_is (sort_of_type c.args.now.now.ty) (sort_of_type c.args.before.now.ty) _ _)); right = is_term _ Truths _ _ c.in_ok-later.ensures.stands refl }

pub is_same-requires : goal.is_same-requires
is_same-requires c = record { now = term_stays (sort_of_type c.args.now.now.ty) c.args.nodes.now c.is_below.new.nodes c.args.now.now.value c.is_below.ensures.grows c.requires.now; before = term_stays (sort_of_type c.args.before.now.ty) c.args.nodes.now c.is_below.new.nodes c.args.before.now.value c.is_below.ensures.grows c.requires.before }

pub returns : goal.returns
returns c =
    let now = tree_stays (sort_of_type c.args.now.now.ty) c.args.nodes.now c.is_below.new.nodes c.args.now.now.value c.is_below.ensures.grows c.requires.now in
    let before = tree_stays (sort_of_type c.args.before.now.ty) c.args.nodes.now c.is_below.new.nodes c.args.before.now.value c.is_below.ensures.grows c.requires.before in
    let decides = (stays c.is_below.new.nodes c.both.new.nodes _ c.in_ok-decides.decides (grows_then c.is_below.new.nodes c.is_same.new.nodes c.both.new.nodes c.is_same.ensures.grows c.both.ensures.grows) c.in_ok-decides.ensures.stands).tree_is in
    let leaves = c.in_ok-leaves.ensures.stands.tree_is ∙ (λ i. same_of (sort_of_type c.args.now.now.ty) (sort_of_type c.args.before.now.ty) (now i) (before i)) in
    let others = tree_stays Truths c.args.nodes.now c.is_same.new.nodes c.args.others (grows_then c.args.nodes.now c.is_below.new.nodes c.is_same.new.nodes c.is_below.ensures.grows c.is_same.ensures.grows) c.requires.others in
    let later = c.in_ok-later.ensures.stands.tree_is ∙ (λ i. both (leaves i) (others i)) in
    record { stands = two_as Or c.either.result c.either.new.nodes _ _ _ _ decides later c.either.ensures.stands; grows = grows_then _ _ _ (grows_then _ _ _ (grows_then _ _ _ c.is_below.ensures.grows c.is_same.ensures.grows) c.both.ensures.grows) c.either.ensures.grows }

pub returns-in_err-leaves-clause-grows : goal.returns-in_err-leaves-clause-grows
returns-in_err-leaves-clause-grows c = grows_then _ _ _ c.is_below.ensures.grows c.is_same.ensures.grows

pub returns-in_err-later-clause-grows : goal.returns-in_err-later-clause-grows
returns-in_err-later-clause-grows c = grows_then _ _ _ (grows_then _ _ _ c.is_below.ensures.grows c.is_same.ensures.grows) c.both.ensures.grows
