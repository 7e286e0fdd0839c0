use Rattle.df_tree.proofs.Furthest.{furthest, furthest_part}
use Rattle.df_tree.proofs.reaches_furthest.Goals as goal

pub returns : goal.returns
returns c = record {
  text = λ n tokens t u is of. furthest n tokens t u is of;
  part = λ n tokens start after t u behind is of. furthest_part n tokens start after t u behind is of;
}
