use Rattle.std.proofs.Common.{length, sym, ◌∙◌, arith}
use Rattle.df_table.specs.Testing.{agrees_with_all}
use Rattle.df_table.proofs.Below.{below_fails}
use Rattle.df_table.proofs.congruence.is_congruent.Goals as goal

pub returns-then-not-agrees_with_all : goal.returns-then-not-agrees_with_all
returns-then-not-agrees_with_all c =
    sym (below_fails (agrees_with_all c.args.nodes.now c.args.table.now) c.loop-m.m (length c.args.nodes.now) (omega arith) (sym c.agrees_with_all.ensures ∙ c.if-not-agrees_with_all.true))
