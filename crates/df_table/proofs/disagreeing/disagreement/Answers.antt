use Rattle.df_table.proofs.Disagreements.{tells_two}
use Rattle.df_table.proofs.disagreeing.disagreement.Goals as goal

pub returns : goal.returns
returns c = tells_two c.args.nodes.now c.args.table.now c.two.result c.two.ensures
