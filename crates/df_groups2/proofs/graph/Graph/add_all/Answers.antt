use Rattle.df_groups2.specs.GraphView.{lists_of}
use Rattle.df_groups2.proofs.Reversing.{adds_more}
use Rattle.df_groups2.proofs.graph.Graph.add_all.Goals as goal

pub loop-source-preserved : goal.loop-source-preserved
loop-source-preserved c =
    adds_more (lists_of c.args.self.now) (lists_of c.loop-source.self) (lists_of c.add.new.self) c.args.sources.now c.loop-source.source-index c.args.target
    c.loop-source-test.true c.loop-source.invariant c.in_ok-add.ensures
