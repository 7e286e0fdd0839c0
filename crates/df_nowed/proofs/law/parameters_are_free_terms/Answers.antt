use Rattle.df_nowed.proofs.Parameters.{free_parameters}
use Rattle.df_nowed.proofs.law.parameters_are_free_terms.Goals as goal

pub returns : goal.returns
returns c = free_parameters
