use Rattle.df_nflow.proofs.Words.{List, refl, sym, ap, ◌∙◌, subst, Node, last_of, Ended, Parts, standing_of, all_ended_in, changed_in}
use Rattle.df_nflow.proofs.Branching.{all_ended_if, branch_ends}
use Rattle.df_nflow.proofs.Leaving.{sorted_way}
use Rattle.df_nflow.proofs.passed.Passed.end_branch.Goals as goal

pub returns-clause-parts : goal.returns-clause-parts
returns-clause-parts c = λ in_loop in_method before flow p e.
    let s = c.args.self.now in
    let new = standing_of c.rewind.new.self in
    let changed = changed_in c.args.changed.now in
    let on = c.args.onward.goes_on in
    let is = c.in_ok-way-2.ensures in
    let ways = c.in_ok-arrived.arrived.items in
    subst (λ (es : List Ended). Parts changed in_loop in_method before (last_of flow) new es c.args.onward.loses)
    (sym (ap (λ (nodes : List Node). all_ended_in nodes ways) is.nodes ∙ all_ended_if s.ledger.nodes on _ ways c.in_ok-arrived.ensures))
    (branch_ends changed in_loop in_method before (standing_of s) new flow on c.args.onward.loses c.args.mark _ p e is.standing
    (record { is = c.in_ok-way.ensures.arrival; ahead = is.ahead; sorted = sorted_way s.ledger.nodes s.types.items s.terms.items (standing_of s).way changed refl s.is_passed.have_terms c.requires.changed }))
