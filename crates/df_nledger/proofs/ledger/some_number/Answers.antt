use Rattle.df_nledger.proofs.Words.{grows_then}
use Rattle.df_nledger.proofs.ledger.some_number.Goals as goal

pub returns-clause-grows : goal.returns-clause-grows
returns-clause-grows c = grows_then _ _ _ c.some_character.ensures.grows c.number_in.ensures.grows
