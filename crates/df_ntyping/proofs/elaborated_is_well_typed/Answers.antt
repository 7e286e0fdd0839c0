use Rattle.df_ntyping.proofs.ProgramWellTyped as law
use Rattle.df_ntyping.proofs.elaborated_is_well_typed.Goals as goal

pub returns : goal.returns
returns c = law.elaborated_is_well_typed
