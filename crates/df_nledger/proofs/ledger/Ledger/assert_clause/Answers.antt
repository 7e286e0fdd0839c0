use Rattle.df_nledger.proofs.Words.{[], clause_of, ledger_of, grows_then}
use Rattle.df_nledger.proofs.Claims.{clause_part, clause_formula, clause_owed}
use Rattle.df_nledger.proofs.Ledgers.{on_ok_then}
use Rattle.df_nledger.proofs.ledger.Ledger.assert_clause.Goals as goal

pub value-requires : goal.value-requires
value-requires c = (clause_part c.args.self.now.nodes c.args.terms.now (clause_of c.args.clause.now) [] c.requires).over

pub assert-requires : goal.assert-requires
assert-requires c = clause_formula c.args.self.now.nodes c.args.terms.now c.value.new.self.nodes (clause_of c.args.clause.now) [] c.in_ok-formula.formula c.requires c.in_ok-formula.ensures.stands

pub returns-clause-ledger : goal.returns-clause-ledger
returns-clause-ledger c =
    on_ok_then c.assert.result c.assert.ensures.ledger (λ e. clause_owed (ledger_of c.args.self.now) (ledger_of c.value.new.self) (ledger_of c.assert.new.self) _ _ _ c.args.pos c.args.kind c.in_ok-formula.ensures.ledger e c.in_ok-formula.ensures.stands.tree_is)

-- ---- on every way out

pub returns-clause-grows : goal.returns-clause-grows
returns-clause-grows c = grows_then _ _ _ c.value.ensures.grows c.assert.ensures.grows
