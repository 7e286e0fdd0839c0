use Rattle.df_nledger.proofs.Words.{stays, grows_then}
use Rattle.df_nledger.proofs.ledger.Ledger.any.Goals as goal

pub returns-clause-stands : goal.returns-clause-stands
returns-clause-stands c = stays c.fresh.new.self.nodes c.assume_type.new.self.nodes _ c.in_ok-term.term c.assume_type.ensures.grows c.in_ok-term.ensures.stands

-- ---- on every way out

pub returns-in_err-assume_type-clause-grows : goal.returns-in_err-assume_type-clause-grows
returns-in_err-assume_type-clause-grows c = grows_then _ _ _ c.fresh.ensures.grows c.assume_type.ensures.grows

pub returns-clause-grows : goal.returns-clause-grows
returns-clause-grows c = grows_then _ _ _ c.fresh.ensures.grows c.assume_type.ensures.grows
