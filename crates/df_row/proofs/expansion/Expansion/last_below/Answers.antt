use Rattle.df_row.proofs.RowEntries.{last_of}
use Rattle.df_row.proofs.expansion.Expansion.last_below.Goals as goal

pub returns-in-Some : goal.returns-in-Some
returns-in-Some c = last_of c.args.self.now.coefficients c.args.bound c.in-Some.node.now _ c.range.result c.next_back.new.self (c.range.ensures.in_range tt) c.in-Some.ensures.steps
