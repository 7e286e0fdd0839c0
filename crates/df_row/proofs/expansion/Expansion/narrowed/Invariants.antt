use Rattle.df_row.proofs.RowFold.{IsMaking}
use Rattle.df_row.proofs.RowNarrow.{narrow_step}
use Rattle.df_row.proofs.expansion.Expansion.narrowed.Given as goal

abbrev pub invariant-loop-node : goal.invariant-loop-node
invariant-loop-node l = IsMaking narrow_step l.self.coefficients.entries l.node-iterator l.coefficients.entries
