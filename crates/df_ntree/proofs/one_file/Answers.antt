use Rattle.df_ntree.proofs.FileLaw.{same_file}
use Rattle.df_ntree.proofs.one_file.Goals as goal

pub returns : goal.returns
returns c = same_file
