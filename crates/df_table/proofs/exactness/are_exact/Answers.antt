use Rattle.std.proofs.Common.{length, sym, ◌∙◌, arith}
use Rattle.df_table.specs.Testing.{exact_at}
use Rattle.df_table.proofs.Below.{below_fails}
use Rattle.df_table.proofs.exactness.are_exact.Goals as goal

pub returns-then-not-exact_at : goal.returns-then-not-exact_at
returns-then-not-exact_at c =
    sym (below_fails (exact_at c.args.nodes.now c.args.table.now) c.loop-number.number (length c.args.nodes.now) (omega arith) (sym c.exact_at.ensures ∙ c.if-not-exact_at.true))
