use Rattle.df_nflow.proofs.Words.{List, refl, sym, ap, ◌∙◌, subst, tree_at, is_term, stays, sort_of_type, AreThere, standing_of, Standing, is_at, Arrival, changed_of, arrivals_in, on_ok_then, grows_not, grows_then, grows_same}
use Rattle.df_nflow.proofs.Changes.{kept_of}
use Rattle.df_nflow.proofs.Waiting.{all_arrived_stay, arrivals_same}
use Rattle.df_nflow.proofs.Joined.{join_kept, join_new}
use Rattle.df_nflow.proofs.Passing.{gone_on, is_passed}
use Rattle.df_nflow.proofs.Standings.{standing_with}
use Rattle.df_nflow.proofs.Telling.{same_here}
use Rattle.df_nflow.proofs.passed.Passed.join_local.Goals as goal

pub invariant_of-self : goal.invariant_of-self
invariant_of-self c = record { is_passed = is_passed c.args.self.now c.fresh.new.self c.fresh.ensures.grows }

pub returns-then-are_same-clause-moves : goal.returns-then-are_same-clause-moves
returns-then-are_same-clause-moves c =
    let s = c.args.self.now in
    let one = c.args.changed.now in
    join_kept (standing_of s) c.args.place (changed_of one) (arrivals_in s.ledger.nodes c.args.arrived.now)
    (same_here s.ledger.nodes s.types.items s.terms.items c.args.place one.local one.ty c.index.result.now c.args.arrived.now c.len-nodes.ensures.table s.is_passed.have_terms c.requires.changed c.requires.arrived c.requires.there c.index.ensures ∙ sym c.are_same.ensures ∙ c.if-are_same.true)

pub assume_joined-requires-clause-arrived : goal.assume_joined-requires-clause-arrived
assume_joined-requires-clause-arrived c = let s = c.args.self.now in all_arrived_stay s.ledger.nodes c.fresh.new.self.nodes c.fresh.ensures.grows s.types.items c.args.arrived.now c.requires.arrived

pub assume_joined-requires-clause-there : goal.assume_joined-requires-clause-there
assume_joined-requires-clause-there c =
    let s = c.args.self.now in
    subst (λ (arrivals : List Arrival). AreThere c.args.place (sort_of_type c.args.changed.now.ty) arrivals) (sym (arrivals_same s.ledger.nodes c.fresh.new.self.nodes c.fresh.ensures.grows s.types.items c.args.arrived.now c.requires.arrived)) c.requires.there

pub give-requires : goal.give-requires
give-requires c =
    let one = c.args.changed.now in
    let mid = c.assume_joined.new.self in
    kept_of mid.ledger.nodes mid.types.items one.local one.ty c.in_ok-term.term (ap (λ (st : Standing). is_at st.types one.local one.ty) c.in_ok-assume_joined.ensures.said ∙ c.requires.changed)
    (is_term mid.ledger.nodes (sort_of_type one.ty) _ c.in_ok-term.term (stays c.fresh.new.self.nodes mid.ledger.nodes _ c.in_ok-term.term c.assume_joined.ensures.grows c.in_ok-term.ensures.stands) refl)

pub returns-clause-moves : goal.returns-clause-moves
returns-clause-moves c =
    let s = c.args.self.now in
    let one = c.args.changed.now in
    let mid = c.assume_joined.new.self in
    let test = same_here s.ledger.nodes s.types.items s.terms.items c.args.place one.local one.ty c.index.result.now c.args.arrived.now c.len-nodes.ensures.table s.is_passed.have_terms c.requires.changed c.requires.arrived c.requires.there c.index.ensures ∙ sym c.are_same.ensures ∙ c.if-are_same.false in
    let fresh = gone_on s c.fresh.new.self c.fresh.ensures.grows in
    let made = standing_with s.ledger c.fresh.new.self s.types.items s.terms.items s.entry.items s.trail.items s.breaks.items s.returns.items c.fresh.ensures.grows s.is_passed _ _ c.in_ok-term.ensures.ledger in
    let stands = c.in_ok-term.ensures.stands in
    on_ok_then c.give.result c.give.ensures.moves (λ p. join_new (standing_of s) c.args.place (changed_of one) (arrivals_in s.ledger.nodes c.args.arrived.now) fresh (standing_of mid) (standing_of c.give.new.self) (arrivals_in c.fresh.new.self.nodes c.args.arrived.now)
    (tree_at c.fresh.new.self.nodes c.in_ok-term.term) (tree_at mid.ledger.nodes c.in_ok-term.term) test made (arrivals_same s.ledger.nodes c.fresh.new.self.nodes c.fresh.ensures.grows s.types.items c.args.arrived.now c.requires.arrived) stands.tree_is
    (stays c.fresh.new.self.nodes mid.ledger.nodes _ c.in_ok-term.term c.assume_joined.ensures.grows stands).tree_is c.in_ok-assume_joined.ensures.said p)

-- ---- on every way out

pub returns-then-are_same-clause-grows : goal.returns-then-are_same-clause-grows
returns-then-are_same-clause-grows c = grows_not c.args.self.now.ledger.nodes

pub returns-in_err-assume_joined-clause-grows : goal.returns-in_err-assume_joined-clause-grows
returns-in_err-assume_joined-clause-grows c = grows_then _ _ _ c.fresh.ensures.grows c.assume_joined.ensures.grows

pub returns-clause-grows : goal.returns-clause-grows
returns-clause-grows c = grows_then _ _ _ (grows_then _ _ _ c.fresh.ensures.grows c.assume_joined.ensures.grows) (grows_same _ _ c.give.ensures.nodes)
