use Rattle.df_ntyping.proofs.CompleteStatements.{one_program}
use Rattle.df_ntyping.proofs.one_program.Goals as goal

pub returns : goal.returns
returns c = one_program
