use Rattle.df_tok.proofs.Divisions as law
use Rattle.df_tok.proofs.one_division.Goals as goal

pub returns : goal.returns
returns c = law.one_division
