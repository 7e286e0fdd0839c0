use Rattle.df_hoare.proofs.Ends.{methods_meet_postconditions}
use Rattle.df_hoare.proofs.methods_meet_postconditions.Goals as goal

pub returns : goal.returns
returns c = methods_meet_postconditions
