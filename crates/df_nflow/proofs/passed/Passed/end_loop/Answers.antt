use Rattle.df_nflow.proofs.Words.{◌∷◌, refl, sym, ap, ◌∙◌, subst, tree_at, if_ok, AllThere, past_loop, standing_of, Standing, are_at, arrivals_in, changed_in, arrival, grows_then, grows_same}
use Rattle.df_nflow.proofs.Leaving.{sorted_way}
use Rattle.df_nflow.proofs.Looping.{way_there, joins_past}
use Rattle.df_nflow.proofs.passed.Passed.end_loop.Goals as goal

pub join_all-requires-clause-there : goal.join_all-requires-clause-there
join_all-requires-clause-there c =
    let s = c.ways_past.new.self in
    let changed = changed_in c.args.changed.now in
    let is = c.in_ok-ways.ensures in
    let at = ap (λ (a : Standing). are_at a.types changed) is.standing ∙ c.requires.changed in
    subst (AllThere 0 changed) (sym (ap (arrivals_in s.ledger.nodes) c.deref.ensures.value ∙ is.ways))
    (way_there changed (standing_of s).way _ (sorted_way s.ledger.nodes s.types.items s.terms.items (standing_of s).way changed refl s.is_passed.have_terms at) c.requires.there)

pub returns-clause-passes : goal.returns-clause-passes
returns-clause-passes c =
    let s = c.ways_past.new.self in
    let changed = changed_in c.args.changed.now in
    let is = c.in_ok-ways.ensures in
    let behind = past_loop c.args.mark c.args.first (tree_at c.args.self.now.ledger.nodes c.args.past) (standing_of c.args.self.now) in
    let at = ap (λ (a : Standing). are_at a.types changed) is.standing ∙ c.requires.changed in
    let sorted = sorted_way s.ledger.nodes s.types.items s.terms.items behind.way changed (ap (λ (a : Standing). a.way.env) (sym is.standing)) s.is_passed.have_terms at in
    if_ok c.join_all.result _ _ c.join_all.ensures.joins (λ on joins. λ ways arrive.
    joins_past (standing_of s) behind _ changed ways on is.standing
    (joins (behind.way ∷ ways) (record { are = ap (arrivals_in s.ledger.nodes) c.deref.ensures.value ∙ is.ways ∙ (λ i. arrival changed (is.standing i).way ∷ arrive.are i); sorted = (sorted, arrive.sorted) })))

-- ---- on every way out

pub returns-in_err-ways-clause-grows : goal.returns-in_err-ways-clause-grows
returns-in_err-ways-clause-grows c = grows_same _ _ c.ways_past.ensures.nodes

pub returns-clause-grows : goal.returns-clause-grows
returns-clause-grows c = grows_then _ _ _ (grows_same _ _ c.ways_past.ensures.nodes) c.join_all.ensures.grows
