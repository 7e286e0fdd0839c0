use Rattle.df_meaning.proofs.Simultaneous.{assignments_are_simultaneous}
use Rattle.df_meaning.proofs.assignments_are_simultaneous.Goals as goal

pub returns : goal.returns
returns c = assignments_are_simultaneous
