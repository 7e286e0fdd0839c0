use Rattle.df_groups2.proofs.Reaching.{partitions_agree}
use Rattle.df_groups2.proofs.law.one_partition.Goals as goal

pub returns : goal.returns
returns c = partitions_agree
