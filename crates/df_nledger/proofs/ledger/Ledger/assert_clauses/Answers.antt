use Rattle.df_nledger.proofs.Words.{◌∷◌, [], ap, ◌∙◌, Pos, clause_of, assert_clauses, place_at, ledger_of, way_of, saying, grows_then}
use Rattle.df_nledger.proofs.Claims.{place_same}
use Rattle.df_nledger.proofs.Repeated.{owed, saying_next}
use Rattle.df_nledger.proofs.ledger.Ledger.assert_clauses.Goals as goal

pub loop-clause-preserved : goal.loop-clause-preserved
loop-clause-preserved c =
    let l = c.loop-clause in
    saying_next (owed (place_at c.args.place) c.args.kind) c.args.self.now l.self c.args.terms.now c.args.clauses.now l.clause-index c.clause-item.result c.assert_clause.new.self l.invariant c.requires c.loop-clause-test.true c.clause-item.is c.assert_clause.ensures.grows
    (c.in_ok-assert_clause.ensures.ledger ∙ ap (λ (at : Pos). saying (assert_clauses (λ clause. at) c.args.kind (way_of l.self c.args.terms.now) (clause_of c.clause-item.result ∷ [])) (ledger_of l.self)) (c.unwrap_or-pos.ensures ∙ place_same c.args.place (clause_of c.clause-item.result)))

-- ---- on every way out

pub returns-in_err-assert_clause-clause-grows : goal.returns-in_err-assert_clause-clause-grows
returns-in_err-assert_clause-clause-grows c = grows_then _ _ _ c.loop-clause.invariant.grows c.assert_clause.ensures.grows
