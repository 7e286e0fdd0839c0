use Rattle.df_groups.proofs.Reaching.{partitions_agree}
use Rattle.df_groups.proofs.law.one_partition.Goals as goal

pub returns : goal.returns
returns c = partitions_agree
