use Rattle.std.proofs.Common.{◌≡◌, [], ◌∷◌, rules, refl, ◌∙◌}
use Rattle.df_groups2.specs.GraphView.{targets_of}
use Rattle.df_groups2.proofs.Fillings.{filling_begins, filling_goes_on}
use Rattle.df_groups2.proofs.components.Grouping.fill.Goals as goal

pub loop-vertex-init : goal.loop-vertex-init
loop-vertex-init c =
    let one : c.in_ok-pending.pending.items ≡ c.args.root ∷ [] = search rules in
    record {
      filling = rw one (filling_begins (targets_of c.args.graph.now) c.args.root c.args.self.now.count c.args.self.now.groups.items);
      count = refl;
    }

pub loop-vertex-preserved : goal.loop-vertex-preserved
loop-vertex-preserved c = record {
  filling =
      filling_goes_on (targets_of c.args.graph.now) c.args.root c.loop-vertex.self.count c.args.self.now.count c.args.self.now.groups.items c.loop-vertex.self.groups.items c.take.new.self.groups.items
      c.loop-vertex.pending.items c.pop.new.self.items c.take.new.pending.items c.in-Some.vertex c.loop-vertex.invariant.count c.in-Some.ensures.items
      (c.in_ok-take.ensures.keeps c.args.root c.args.self.now.groups.items) c.loop-vertex.invariant.filling;
  count = c.take.ensures.count ∙ c.loop-vertex.invariant.count;
}
