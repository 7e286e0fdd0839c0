use Rattle.df_nflow.proofs.Words.{◌≤◌, length, ap, arith, length-map, path_in, standing_of, arrival_in, arrivals_in, changed_in, grows_not, grows_same}
use Rattle.df_nflow.proofs.Joined.{joins_one_kept, joins_more_kept, one_alone}
use Rattle.df_nflow.proofs.passed.Passed.join.Goals as goal

pub returns-in_ok-take-in-len1-clause-joins : goal.returns-in_ok-take-in-len1-clause-joins
returns-in_ok-take-in-len1-clause-joins c =
    let s = c.args.self.now in
    let way = c.way-item.result in
    let alone = one_alone c.args.arrived.now way c.in-len1.len_at_least c.in-len1.len_below c.way-item.is in
    λ ways arrive. joins_one_kept (standing_of s) (standing_of c.take.new.self) (path_in s.ledger.nodes c.args.path) (changed_in c.args.changed.now) (arrivals_in s.ledger.nodes c.args.arrived.now) (arrival_in s.ledger.nodes way) ways
    (ap (arrivals_in s.ledger.nodes) alone) arrive c.in_ok-take-in-len1.ensures.moves

pub returns-in_ok-join_locals-in-len2-up-clause-joins : goal.returns-in_ok-join_locals-in-len2-up-clause-joins
returns-in_ok-join_locals-in-len2-up-clause-joins c =
    let s = c.args.self.now in
    let arrivals = arrivals_in s.ledger.nodes c.args.arrived.now in
    let long : 2 ≤ length arrivals = omega (arith, c.in-len2-up.len_at_least, length-map c.args.arrived.now (arrival_in s.ledger.nodes)) in
    λ ways arrive. joins_more_kept (standing_of s) (standing_of c.join_locals.new.self) (path_in s.ledger.nodes c.args.path) (changed_in c.args.changed.now) arrivals ways long arrive c.in_ok-join_locals-in-len2-up.ensures.moves

-- ---- on every way out

pub returns-in-empty-clause-grows : goal.returns-in-empty-clause-grows
returns-in-empty-clause-grows c = grows_not c.args.self.now.ledger.nodes

pub returns-in_err-take-in-len1-clause-grows : goal.returns-in_err-take-in-len1-clause-grows
returns-in_err-take-in-len1-clause-grows c = grows_same _ _ c.take.ensures.nodes

pub returns-in_ok-take-in-len1-clause-grows : goal.returns-in_ok-take-in-len1-clause-grows
returns-in_ok-take-in-len1-clause-grows c = grows_same _ _ c.take.ensures.nodes
