use Rattle.df_nflow.proofs.Words.{◌≤◌, length, sym, arith, length-map, path_in, if_ok, standing_of, arrival_in, arrivals_in, all_ended_in, changed_in, grows_not, grows_same}
use Rattle.df_nflow.proofs.Branching.{arrivals_ended}
use Rattle.df_nflow.proofs.Joined.{joins_more_ended}
use Rattle.df_nflow.proofs.passed.Passed.join_branches.Goals as goal

pub returns-in-len2-up-clause-joins : goal.returns-in-len2-up-clause-joins
returns-in-len2-up-clause-joins c =
    let s = c.args.self.now in
    let nodes = s.ledger.nodes in
    let all = c.args.arrived.now in
    let long : 2 ≤ length (arrivals_in nodes all) = omega (arith, c.in-len2-up.len_at_least, length-map all (arrival_in nodes)) in
    if_ok c.join.result _ _ c.join.ensures.joins
    (λ on joins ways are. joins_more_ended (standing_of s) (standing_of c.join.new.self) (path_in nodes c.args.path) (changed_in c.args.changed.now) (arrivals_in nodes all) (all_ended_in nodes all) ways on (sym (arrivals_ended nodes all)) long are joins)

-- ---- on every way out

pub returns-in-empty-clause-grows : goal.returns-in-empty-clause-grows
returns-in-empty-clause-grows c = grows_not c.args.self.now.ledger.nodes

pub returns-in_err-replay-in-len1-clause-grows : goal.returns-in_err-replay-in-len1-clause-grows
returns-in_err-replay-in-len1-clause-grows c = grows_same _ _ c.replay.ensures.nodes

pub returns-in_ok-replay-in-len1-clause-grows : goal.returns-in_ok-replay-in-len1-clause-grows
returns-in_ok-replay-in-len1-clause-grows c = grows_same _ _ c.replay.ensures.nodes
