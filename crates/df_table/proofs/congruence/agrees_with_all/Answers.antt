use Rattle.std.proofs.Common.{length, sym, ◌∙◌, arith}
use Rattle.df_table.specs.Testing.{agree}
use Rattle.df_table.proofs.Below.{below_fails}
use Rattle.df_table.proofs.congruence.agrees_with_all.Goals as goal

pub returns-then-not-agree : goal.returns-then-not-agree
returns-then-not-agree c =
    sym (below_fails (agree c.args.nodes.now c.args.table.now c.args.m) c.loop-n.n (length c.args.nodes.now) (omega arith) (sym c.agree.ensures ∙ c.if-not-agree.true))
