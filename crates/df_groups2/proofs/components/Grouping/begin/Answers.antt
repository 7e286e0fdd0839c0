use Rattle.std.proofs.Common.{◌≡◌, suc, ◌+◌, arith}
use Rattle.df_groups2.specs.GraphView.{lists_of}
use Rattle.df_groups2.proofs.Groupings.{grouping_begins}
use Rattle.df_groups2.proofs.components.Grouping.begin.Goals as goal

pub returns-in_ok-fill-clause-keeps : goal.returns-in_ok-fill-clause-keeps
returns-in_ok-fill-clause-keeps c = λ back before turned s.
    let one_more : c.fill.new.self.count + 1 ≡ suc c.args.self.now.count = omega (arith, c.fill.ensures.count) in
    rw one_more (grouping_begins (lists_of c.args.graph.now) back turned c.args.root before c.args.self.now.count c.args.self.now.groups.items c.fill.new.self.groups.items s c.in_ok-fill.ensures.filled)
