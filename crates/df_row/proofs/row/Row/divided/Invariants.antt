use Rattle.df_row.proofs.RowFold.{IsMaking}
use Rattle.df_row.proofs.RowQuotients.{divide_step}
use Rattle.df_row.proofs.row.Row.divided.Given as goal

abbrev pub invariant-loop-node : goal.invariant-loop-node
invariant-loop-node l = IsMaking (divide_step l.divisor) l.self.coefficients.entries l.node-iterator l.quotients.entries
