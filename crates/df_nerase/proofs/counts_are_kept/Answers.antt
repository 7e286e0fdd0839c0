use Rattle.df_nerase.proofs.Counts.{counts_are_kept}
use Rattle.df_nerase.proofs.counts_are_kept.Goals as goal

pub returns : goal.returns
returns c = counts_are_kept
