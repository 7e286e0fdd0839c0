use Rattle.df_level.specs.Row.{function_row}
use Rattle.df_lin_tests.proofs.Inside.{below_next, below_ends}
use Rattle.df_lin_tests.proofs.eliminations.is_inside.Goals as goal

pub loop-entry-preserved : goal.loop-entry-preserved
loop-entry-preserved c = below_next c.args.count c.loop-entry.entry-index c.entries-entry-items.result.now c.loop-entry.invariant c.loop-entry-test.true c.if-entry-count.false

pub returns : goal.returns
returns c = λ e. below_ends c.args.count c.loop-entry.entry-index c.entries-entry-items.result.now (function_row c.args.row.now) c.loop-entry.invariant c.loop-entry-test.false c.entries-entry-items.ensures.coefficients
