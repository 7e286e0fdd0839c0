use Rattle.df_listing.proofs.Codes.{codes_same}
use Rattle.df_listing.proofs.law.one_code.Goals as goal

pub returns : goal.returns
returns c a b p q e = codes_same a b p q e
