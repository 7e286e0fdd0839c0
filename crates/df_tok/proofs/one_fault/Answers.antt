use Rattle.df_tok.proofs.OneFault as law
use Rattle.df_tok.proofs.one_fault.Goals as goal

pub returns : goal.returns
returns c = law.one_fault
