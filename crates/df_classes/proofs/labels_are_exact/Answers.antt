use Rattle.df_classes.proofs.Labels.{labels_are_exact}
use Rattle.df_classes.proofs.labels_are_exact.Goals as goal

pub returns : goal.returns
returns c = labels_are_exact
