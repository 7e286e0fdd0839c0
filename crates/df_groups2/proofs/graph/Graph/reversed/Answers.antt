use Rattle.df_groups2.specs.GraphView.{lists_of}
use Rattle.df_groups2.proofs.Reversing.{turned_more, turned_all}
use Rattle.df_groups2.proofs.graph.Graph.reversed.Goals as goal

pub loop-vertex-preserved : goal.loop-vertex-preserved
loop-vertex-preserved c =
    turned_more (λ list. list.items) c.args.self.now.targets.items c.deref-targets-items.result.now (lists_of c.loop-vertex.back) (lists_of c.add_all.new.self) c.loop-vertex.vertex c.targets-item.result c.deref.result.now
    c.deref-targets-items.ensures.value c.loop-vertex-test.true c.targets-item.is c.deref.ensures.value c.loop-vertex.invariant c.in_ok-add_all.ensures

pub returns : goal.returns
returns c =
    turned_all (λ list. list.items) c.args.self.now.targets.items c.deref-targets-items.result.now (lists_of c.loop-vertex.back) c.loop-vertex.vertex
    c.deref-targets-items.ensures.value c.loop-vertex-test.false c.loop-vertex.invariant
