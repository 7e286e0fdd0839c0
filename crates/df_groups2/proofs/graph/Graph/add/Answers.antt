use Rattle.std.proofs.Common.{arith}
use Rattle.df_groups2.proofs.Reversing.{listed}
use Rattle.df_groups2.proofs.graph.Graph.add.Goals as goal

pub returns-in_ok-push : goal.returns-in_ok-push
returns-in_ok-push c =
    listed (λ list. list.items) c.args.self.now.targets.items c.args.source c.args.target c.index_mut.result.now c.push.new.self
    (omega arith) c.index_mut.ensures.value c.in_ok-push.ensures.items
