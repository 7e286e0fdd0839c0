use Rattle.df_nflow.proofs.Words.{sym, ap, ◌∙◌, subst, AllThere, standing_of, AreArrived, all_ended_in, arrivals_in, changed_in, grows_then}
use Rattle.df_nflow.proofs.Branching.{rejoins, all_ended_same, arrivals_ended}
use Rattle.df_nflow.proofs.Waiting.{all_arrived_stay, arrivals_same}
use Rattle.df_nflow.proofs.Passing.{gone_on, keeps, is_passed}
use Rattle.df_nflow.proofs.passed.Passed.rejoin.Goals as goal

pub invariant_of-self : goal.invariant_of-self
invariant_of-self c = record { is_passed = is_passed c.args.self.now c.path_behind.new.ledger c.path_behind.ensures.grows }

pub join_branches-requires-clause-arrived : goal.join_branches-requires-clause-arrived
join_branches-requires-clause-arrived c =
    let s = c.args.self.now in
    let now = c.path_behind.new.ledger.nodes in
    subst (AreArrived now s.types.items) (sym c.deref.ensures.value) (all_arrived_stay s.ledger.nodes now c.path_behind.ensures.grows s.types.items c.args.parted.now.arrived.items c.requires.arrived)

pub join_branches-requires-clause-there : goal.join_branches-requires-clause-there
join_branches-requires-clause-there c =
    let s = c.args.self.now in
    let now = c.path_behind.new.ledger.nodes in
    subst (AllThere 0 (changed_in c.args.changed.now))
    (sym (ap (arrivals_in now) c.deref.ensures.value ∙ arrivals_same s.ledger.nodes now c.path_behind.ensures.grows s.types.items c.args.parted.now.arrived.items c.requires.arrived)) c.requires.there

pub returns-clause-passes : goal.returns-clause-passes
returns-clause-passes c = λ in_loop in_method start all p starts.
    let s = c.args.self.now in
    let l = c.path_behind.new.ledger in
    let grows = c.path_behind.ensures.grows in
    let arrived = c.args.parted.now.arrived.items in
    rejoins (changed_in c.args.changed.now) in_loop in_method start (standing_of s) (gone_on s l grows) _ all (all_ended_in s.ledger.nodes arrived) _ (arrivals_in s.ledger.nodes arrived) _ _ _ _ p starts
    (keeps s l grows c.in_ok-path.ensures.ledger)
    (ap (all_ended_in l.nodes) c.deref.ensures.value ∙ all_ended_same s.ledger.nodes l.nodes s.types.items grows arrived c.requires.arrived)
    (arrivals_ended s.ledger.nodes arrived) c.in_ok-path.ensures.path c.in_ok-goes_on.ensures.joins

-- ---- on every way out

pub returns-in_err-goes_on-clause-grows : goal.returns-in_err-goes_on-clause-grows
returns-in_err-goes_on-clause-grows c = grows_then _ _ _ c.path_behind.ensures.grows c.join_branches.ensures.grows

pub returns-clause-grows : goal.returns-clause-grows
returns-clause-grows c = grows_then _ _ _ c.path_behind.ensures.grows c.join_branches.ensures.grows
