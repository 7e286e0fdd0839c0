use Rattle.df_row.specs.RowView.{row_of}
use Rattle.df_row.proofs.RowSums.{IsSumming}
use Rattle.df_row.proofs.row.Row.add_multiple.Given as goal

abbrev pub invariant-loop-node : goal.invariant-loop-node
invariant-loop-node l = IsSumming l.factor l.other.coefficients.entries l.node-iterator (row_of l.initial.self) (row_of l.self)
