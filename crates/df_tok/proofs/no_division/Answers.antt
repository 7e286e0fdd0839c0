use Rattle.df_tok.proofs.Faults.{fault_excludes}
use Rattle.df_tok.proofs.no_division.Goals as goal

pub returns : goal.returns
returns c = fault_excludes
