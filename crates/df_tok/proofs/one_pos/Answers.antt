use Rattle.df_tok.proofs.Ordered as law
use Rattle.df_tok.proofs.one_pos.Goals as goal

pub returns : goal.returns
returns c = law.one_pos
