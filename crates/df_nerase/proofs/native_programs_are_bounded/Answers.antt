use Rattle.df_nerase.proofs.Bounded.{native_programs_are_bounded}
use Rattle.df_nerase.proofs.native_programs_are_bounded.Goals as goal

pub returns : goal.returns
returns c = native_programs_are_bounded
