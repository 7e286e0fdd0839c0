use Rattle.df_nledger.proofs.Words.{[], clause_of, ledger_of, grows_then}
use Rattle.df_nledger.proofs.Claims.{clause_part, clause_formula, clause_known}
use Rattle.df_nledger.proofs.Ledgers.{on_ok_then}
use Rattle.df_nledger.proofs.ledger.Ledger.assume_clause.Goals as goal

pub known_value-requires : goal.known_value-requires
known_value-requires c = (clause_part c.args.self.now.nodes c.args.terms.now (clause_of c.args.clause.now) [] c.requires).over

pub assume-requires : goal.assume-requires
assume-requires c = clause_formula c.args.self.now.nodes c.args.terms.now c.known_value.new.self.nodes (clause_of c.args.clause.now) [] c.in_ok-formula.formula c.requires c.in_ok-formula.ensures.stands

pub returns-clause-ledger : goal.returns-clause-ledger
returns-clause-ledger c =
    on_ok_then c.assume.result c.assume.ensures.ledger (λ e. clause_known (ledger_of c.args.self.now) (ledger_of c.known_value.new.self) (ledger_of c.assume.new.self) _ _ _ c.in_ok-formula.ensures.ledger e c.in_ok-formula.ensures.stands.tree_is)

-- ---- on every way out

pub returns-clause-grows : goal.returns-clause-grows
returns-clause-grows c = grows_then _ _ _ c.known_value.ensures.grows c.assume.ensures.grows
