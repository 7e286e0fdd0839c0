use Rattle.df_axiom.proofs.SchemaTruth.{instances_true}
use Rattle.df_axiom.proofs.law.instances_are_true.Goals as goal

pub returns : goal.returns
returns c = instances_true
