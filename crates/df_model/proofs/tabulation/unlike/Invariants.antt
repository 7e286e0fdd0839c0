use Rattle.std.proofs.Common.{◌≡◌, drop}
use Rattle.df_cong.specs.Congruence.{label_at}
use Rattle.df_model.specs.Tabulation.{unlike}
use Rattle.df_model.proofs.tabulation.unlike.Given as goal

abbrev pub invariant-loop-place : goal.invariant-loop-place
invariant-loop-place l = let label = label_at l.labels in unlike label l.first l.second ≡ unlike label (drop l.place l.first) (drop l.place l.second)
