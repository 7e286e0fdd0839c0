use Rattle.df_nflow.proofs.Words.{List, sym, ap, ◌∙◌, subst, IsTerm, tree_at, grows_then, term_stays, drop_next, assume_there, sort_of_type, assume_joined_at, term_at, ledger_of, standing_of, also, arrival_in, arrivals_in, DeclaredArrived, has_path_stays, Said}
use Rattle.df_nledger.specs.Ledger.{saying}
use Rattle.df_nflow.proofs.Arriving.{term_joined, joined_next, said_joined}
use Rattle.df_nflow.proofs.Passing.{is_passed, says}
use Rattle.df_nflow.proofs.Standings.{also_next}
use Rattle.df_nflow.proofs.passed.Passed.assume_joined.Goals as goal

pub assume_there-requires-clause-term : goal.assume_there-requires-clause-term
assume_there-requires-clause-term c = term_stays (sort_of_type c.args.ty) c.args.self.now.ledger.nodes c.loop-way.self.ledger.nodes c.args.term c.loop-way.invariant.grows c.requires.term

pub assume_there-requires-clause-path : goal.assume_there-requires-clause-path
assume_there-requires-clause-path c =
    let old = c.args.self.now in
    let l = c.loop-way in
    let at = joined_next old.ledger.nodes old.types.items c.args.place (sort_of_type c.args.ty) c.args.arrived.now l.way-index c.way-item.result c.way-item.is c.loop-way-test.true l.invariant.are l.invariant.there in
    has_path_stays old.ledger.nodes l.self.ledger.nodes c.way-item.result.path l.invariant.grows at.0.path

pub assume_there-requires-clause-here : goal.assume_there-requires-clause-here
assume_there-requires-clause-here c =
    let old = c.args.self.now in
    let l = c.loop-way in
    let sort = sort_of_type c.args.ty in
    let at = joined_next old.ledger.nodes old.types.items c.args.place sort c.args.arrived.now l.way-index c.way-item.result c.way-item.is c.loop-way-test.true l.invariant.are l.invariant.there in
    term_stays sort old.ledger.nodes l.self.ledger.nodes c.index.result.now l.invariant.grows (subst (IsTerm sort old.ledger.nodes) (sym c.index.ensures) (term_joined old.ledger.nodes old.types.items c.way-item.result c.args.place sort at.1 c.index.result.now at.0))

pub invariant_of-self : goal.invariant_of-self
invariant_of-self c = record { is_passed = is_passed c.loop-way.self c.assume_there.new.self c.assume_there.ensures.grows }

pub loop-way-preserved : goal.loop-way-preserved
loop-way-preserved c =
    let old = c.args.self.now in
    let l = c.loop-way in
    let s = l.self in
    let way = c.way-item.result in
    let nodes = old.ledger.nodes in
    let place = c.args.place in
    let a = tree_at nodes c.args.term in
    let at = joined_next nodes old.types.items place (sort_of_type c.args.ty) c.args.arrived.now l.way-index way c.way-item.is c.loop-way-test.true l.invariant.are l.invariant.there in
    let grows = c.assume_there.ensures.grows in
    let said = assume_there c.args.ty a (arrival_in nodes way).path (term_at (arrival_in nodes way) place) in
    let same = said_joined nodes s.ledger.nodes old.types.items way c.args.ty place c.args.term c.index.result.now l.invariant.grows at.0 at.1 c.requires.term c.index.ensures in
    let step = says s c.assume_there.new.self grows said (c.in_ok-assume_there.ensures.ledger ∙ ap (λ (all : List Said). saying all (ledger_of s.ledger)) same) in
    let is = drop_next c.args.arrived.now l.way-index way c.way-item.is c.loop-way-test.true in
    record {
      grows = grows_then nodes s.ledger.nodes c.assume_there.new.self.nodes l.invariant.grows grows;
      are = at.2;
      there = at.3;
      said = also_next (standing_of old) (standing_of s) _ _ said _ (ap (λ (ways : List DeclaredArrived). also (assume_joined_at c.args.ty place a (arrivals_in nodes ways)) (standing_of s)) (sym is) ∙ l.invariant.said) step;
    }

-- ---- on every way out

pub returns-in_err-assume_there-clause-grows : goal.returns-in_err-assume_there-clause-grows
returns-in_err-assume_there-clause-grows c = grows_then _ _ _ c.loop-way.invariant.grows c.assume_there.ensures.grows

pub returns-clause-grows : goal.returns-clause-grows
returns-clause-grows c = c.loop-way.invariant.grows
