use Rattle.df_nmeas.proofs.Words.{refl, ap, ◌∙◌, Numbers, Characters, Code, less, of_one, stays, is_term, tree_stays, stands_as, term_stays, grows_then}
use Rattle.df_nmeas.proofs.order.characters_below.Goals as goal

pub less-requires : goal.less-requires
less-requires c = record { left = term_stays Numbers c.number_in.new.nodes c.number_in-2.new.nodes c.in_ok-now.now c.number_in-2.ensures.grows (is_term _ Numbers _ _ c.in_ok-now.ensures.stands refl); right = is_term _ Numbers _ _ c.in_ok-before.ensures.stands refl }

pub number_in-requires-2 : goal.number_in-requires-2
number_in-requires-2 c = term_stays Characters c.args.nodes.now c.number_in.new.nodes c.args.before c.number_in.ensures.grows c.requires.before

pub number_in-requires : goal.number_in-requires
number_in-requires c = c.requires.now

pub returns : goal.returns
returns c =
    let one = (stays c.number_in.new.nodes c.number_in-2.new.nodes _ c.in_ok-now.now c.number_in-2.ensures.grows c.in_ok-now.ensures.stands).tree_is in
    let other = c.in_ok-before.ensures.stands.tree_is ∙ ap (of_one Code) (tree_stays Characters c.args.nodes.now c.number_in.new.nodes c.args.before c.number_in.ensures.grows c.requires.before) in
    record { stands = stands_as c.less.result c.less.new.nodes _ _ (λ i. less (one i) (other i)) c.less.ensures.stands; grows = grows_then _ _ _ (grows_then _ _ _ c.number_in.ensures.grows c.number_in-2.ensures.grows) c.less.ensures.grows }

pub returns-in_err-before-clause-grows : goal.returns-in_err-before-clause-grows
returns-in_err-before-clause-grows c = grows_then _ _ _ c.number_in.ensures.grows c.number_in-2.ensures.grows
