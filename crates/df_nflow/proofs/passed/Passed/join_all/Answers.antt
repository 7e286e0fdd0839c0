use Rattle.df_nflow.proofs.Words.{◌≡◌, Option, sym, ap, ◌∙◌, subst, path_in, if_ok, Term, any_path, join, paths_of, AllThere, paths_in, standing_of, Standing, Joins, changed_in, grows_then}
use Rattle.df_nflow.proofs.Waiting.{all_arrived_stay, arrivals_same}
use Rattle.df_nflow.proofs.Changes.{paths_joined}
use Rattle.df_nflow.proofs.Passing.{gone_on, keeps, is_passed}
use Rattle.df_nflow.proofs.passed.Passed.join_all.Goals as goal

pub invariant_of-self : goal.invariant_of-self
invariant_of-self c = record { is_passed = is_passed c.args.self.now c.any_path.new.ledger c.any_path.ensures.grows }

pub join-requires-clause-arrived : goal.join-requires-clause-arrived
join-requires-clause-arrived c = let s = c.args.self.now in all_arrived_stay s.ledger.nodes c.any_path.new.ledger.nodes c.any_path.ensures.grows s.types.items c.args.arrived.now c.requires.arrived

pub join-requires-clause-there : goal.join-requires-clause-there
join-requires-clause-there c =
    let s = c.args.self.now in
    subst (AllThere 0 (changed_in c.args.changed.now)) (sym (arrivals_same s.ledger.nodes c.any_path.new.ledger.nodes c.any_path.ensures.grows s.types.items c.args.arrived.now c.requires.arrived)) c.requires.there

pub returns-clause-joins : goal.returns-clause-joins
returns-clause-joins c =
    let s = c.args.self.now in
    let l = c.any_path.new.ledger in
    let grows = c.any_path.ensures.grows in
    let changed = changed_in c.args.changed.now in
    let new = standing_of c.join.new.self in
    if_ok c.join.result _ _ c.join.ensures.joins (λ on joins. λ ways arrive.
    let path : path_in l.nodes c.in_ok-path.path ≡ any_path (paths_of ways) = c.in_ok-path.ensures.path ∙ ap any_path (ap paths_in arrive.are ∙ paths_joined changed ways) in
    let all = joins ways (record { are = arrivals_same s.ledger.nodes l.nodes grows s.types.items c.args.arrived.now c.requires.arrived ∙ arrive.are; sorted = arrive.sorted }) in
    subst (λ (a : Standing). Joins a (join (any_path (paths_of ways)) a.way.env changed ways a.fresh) new on) (keeps s l grows c.in_ok-path.ensures.ledger)
    (subst (λ (p : Option Term). Joins (gone_on s l grows) (join p (gone_on s l grows).way.env changed ways (gone_on s l grows).fresh) new on) path all))

-- ---- on every way out

pub returns-clause-grows : goal.returns-clause-grows
returns-clause-grows c = grows_then _ _ _ c.any_path.ensures.grows c.join.ensures.grows
