use Rattle.df_nledger.proofs.Words.{grows_then}
use Rattle.df_nledger.proofs.ledger.some_character.Goals as goal

pub returns-clause-grows : goal.returns-clause-grows
returns-clause-grows c = grows_then _ _ _ c.literal.ensures.grows c.value_in.ensures.grows
