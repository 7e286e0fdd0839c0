use Rattle.df_ntyping.proofs.TypedIsWellTyped as law
use Rattle.df_ntyping.proofs.typed_is_well_typed.Goals as goal

pub returns : goal.returns
returns c = law.typed_is_well_typed
