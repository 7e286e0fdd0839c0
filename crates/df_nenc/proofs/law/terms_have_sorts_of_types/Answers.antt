use Rattle.df_nenc.proofs.Cases.{expression_term}
use Rattle.df_nenc.proofs.law.terms_have_sorts_of_types.Goals as goal

pub returns : goal.returns
returns c = expression_term
