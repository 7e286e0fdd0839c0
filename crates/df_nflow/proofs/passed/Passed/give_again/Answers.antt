use Rattle.df_nflow.proofs.Words.{ap, ◌∙◌, tree_at, grows_then, grows_same, term_stays, tree_stays, assert, equal_in, sort_of_type, standing_of, Standing, is_at, on_ok_then}
use Rattle.df_meaning.specs.declared.kind.Kind.TheVariants as kinds
use Rattle.df_nflow.proofs.Changes.{kept_of, said_given}
use Rattle.df_nflow.proofs.passed.Passed.give_again.Goals as goal

pub give-requires : goal.give-requires
give-requires c =
    let s = c.args.self.now in
    let mid = c.assert_same.new.self in
    let target = c.args.target.now in
    kept_of mid.ledger.nodes mid.types.items target.local target.ty c.args.term (ap (λ (st : Standing). is_at st.types target.local target.ty) c.in_ok-assert_same.ensures.same ∙ c.requires.local)
    (term_stays (sort_of_type target.ty) s.ledger.nodes mid.ledger.nodes c.args.term c.assert_same.ensures.grows c.requires.term)

pub returns-clause-moves : goal.returns-clause-moves
returns-clause-moves c =
    let s = c.args.self.now in
    let old = standing_of s in
    let mid = c.assert_same.new.self in
    let target = c.args.target.now in
    let asked = assert old.way.path target.pos kinds.Distinct (equal_in target.ty (tree_at s.ledger.nodes c.args.term) (old.way.env target.local)) in
    on_ok_then c.give.result c.give.ensures.moves (λ p. said_given old (standing_of mid) (standing_of c.give.new.self) asked old.fresh target.local (tree_at mid.ledger.nodes c.args.term) (tree_at s.ledger.nodes c.args.term)
    c.in_ok-assert_same.ensures.same (tree_stays (sort_of_type target.ty) s.ledger.nodes mid.ledger.nodes c.args.term c.assert_same.ensures.grows c.requires.term) p)

pub returns-clause-grows : goal.returns-clause-grows
returns-clause-grows c =
    grows_then c.args.self.now.ledger.nodes c.assert_same.new.self.ledger.nodes c.give.new.self.ledger.nodes c.assert_same.ensures.grows (grows_same c.assert_same.new.self.ledger.nodes c.give.new.self.ledger.nodes c.give.ensures.nodes)
