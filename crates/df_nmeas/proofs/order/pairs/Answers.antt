use Rattle.df_nmeas.proofs.Words.{arith}
use Rattle.df_nmeas.proofs.Pairs.{equal_pairs, unequal_pairs}
use Rattle.df_nmeas.proofs.order.pairs.Goals as goal

pub returns-then-now-before : goal.returns-then-now-before
returns-then-now-before c = let e = equal_pairs c.args.now.now c.args.before.now (omega arith) in omega arith

pub returns-else-now-before : goal.returns-else-now-before
returns-else-now-before c = let e = unequal_pairs c.args.now.now c.args.before.now (λ same. omega arith) in omega arith
