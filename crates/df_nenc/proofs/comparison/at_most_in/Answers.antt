use Rattle.df_nenc.proofs.Words.{ap, ◌∙◌, Numbers, sort_of_type, AtMost, number_in}
use Rattle.df_nenc.proofs.Lemmas.{term_stays, stays, is_term, tree_stays, two_as, counted_number, grows_then}
use Rattle.df_nenc.proofs.comparison.at_most_in.Goals as goal

pub number_in-requires-2 : goal.number_in-requires-2
number_in-requires-2 c = term_stays (sort_of_type c.args.ty) c.args.nodes.now c.number_in.new.nodes c.args.right c.number_in.ensures.grows c.requires.right

pub at_most-requires : goal.at_most-requires
at_most-requires c = record { left = term_stays Numbers c.number_in.new.nodes c.number_in-2.new.nodes c.in_ok-left.left c.number_in-2.ensures.grows (is_term _ Numbers _ _ c.in_ok-left.ensures.stands (counted_number c.args.ty _ c.requires.counts c.requires.left.sort_is)); right = is_term _ Numbers _ _ c.in_ok-right.ensures.stands (counted_number c.args.ty _ c.requires.counts (term_stays (sort_of_type c.args.ty) c.args.nodes.now c.number_in.new.nodes c.args.right c.number_in.ensures.grows c.requires.right).sort_is) }

pub returns-clause-stands : goal.returns-clause-stands
returns-clause-stands c = two_as AtMost c.at_most.result c.at_most.new.nodes _ _ _ _ (stays c.number_in.new.nodes c.number_in-2.new.nodes _ c.in_ok-left.left c.number_in-2.ensures.grows c.in_ok-left.ensures.stands).tree_is (c.in_ok-right.ensures.stands.tree_is ∙ ap (number_in c.args.ty) (tree_stays (sort_of_type c.args.ty) c.args.nodes.now c.number_in.new.nodes c.args.right c.number_in.ensures.grows c.requires.right)) c.at_most.ensures.stands

-- ---- on every way out

pub returns-in_err-left-clause-grows : goal.returns-in_err-left-clause-grows
returns-in_err-left-clause-grows c = c.number_in.ensures.grows

pub returns-in_err-right-clause-grows : goal.returns-in_err-right-clause-grows
returns-in_err-right-clause-grows c = grows_then _ _ _ c.number_in.ensures.grows c.number_in-2.ensures.grows

pub returns-clause-grows : goal.returns-clause-grows
returns-clause-grows c = grows_then _ _ _ (grows_then _ _ _ c.number_in.ensures.grows c.number_in-2.ensures.grows) c.at_most.ensures.grows
