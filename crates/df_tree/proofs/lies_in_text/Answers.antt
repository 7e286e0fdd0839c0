use Rattle.df_tree.proofs.Lying.{lies_in_text}
use Rattle.df_tree.proofs.lies_in_text.Goals as goal

pub returns : goal.returns
returns c = λ at t. lies_in_text at t
