use Rattle.df_nflow.proofs.Words.{[], ◌∷◌, append-nil, false, true, refl, sym, standing_of, arrivals_in, changed_in, arrival, grows_not}
use Rattle.df_nflow.proofs.Leaving.{sorted_way, one_more, leaves, told}
use Rattle.df_nflow.proofs.passed.Passed.leave_loop.Goals as goal

pub returns-clause-passes : goal.returns-clause-passes
returns-clause-passes c =
    let s = c.args.self.now in
    let nodes = s.ledger.nodes in
    let here = standing_of s in
    let in_loop = changed_in c.args.exits.in_loop.now in
    let in_method = changed_in c.args.exits.in_method.now in
    let more = one_more nodes s.breaks.items c.push.new.self.items c.in_ok-way.way (arrival in_loop here.way) c.in_ok-push.ensures.items c.in_ok-way.ensures.arrival in
    let sorted = sorted_way nodes s.types.items s.terms.items here.way in_loop refl s.is_passed.have_terms c.requires in
    told in_loop in_method _ _ _ false true _ _ c.off.ensures.goes_on c.off.ensures.loses (leaves in_loop in_method here (here.way ∷ []) [] (arrivals_in nodes c.push.new.self.items) here.returns more (sym (append-nil here.returns)) (sorted, tt) tt)

-- ---- on every way out

pub returns-in_err-way-clause-grows : goal.returns-in_err-way-clause-grows
returns-in_err-way-clause-grows c = grows_not c.args.self.now.ledger.nodes

pub returns-in_err-push-clause-grows : goal.returns-in_err-push-clause-grows
returns-in_err-push-clause-grows c = grows_not c.args.self.now.ledger.nodes

pub returns-clause-grows : goal.returns-clause-grows
returns-clause-grows c = grows_not c.args.self.now.ledger.nodes
