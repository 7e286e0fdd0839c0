use Rattle.std.proofs.Common.{◌≡◌, List, None, Some, sym, ◌∙◌}
use Rattle.df_form.specs.Node.{Node, number_of}
use Rattle.df_form.proofs.Tables.{made_old, made_new}
use Rattle.df_form.proofs.arena.Arena.add.Goals as goal

pub push-requires-clause-new : goal.push-requires-clause-new
push-requires-clause-new g c = sym c.in_default.ensures

pub returns-in-Some-clause-made : goal.returns-in-Some-clause-made
returns-in-Some-clause-made g c =
    let nodes : List Node = g.Self.NodeTable.nodes c.args.self.now in
    let node : Node = record { op = c.args.op; parts = c.args.parts.now } in
    let found : number_of nodes node ≡ Some c.in-Some.number = sym c.in-Some.ensures in
    made_old nodes node c.in-Some.number found

pub returns-clause-made : goal.returns-clause-made
returns-clause-made g c =
    let nodes : List Node = g.Self.NodeTable.nodes c.args.self.now in
    let node : Node = record { op = c.args.op; parts = c.args.parts.now } in
    let none : number_of nodes node ≡ None = sym c.in_default.ensures in
    made_new nodes node none ∙ (λ i. record { nodes = sym c.in_ok-push.ensures.pushed i; number = sym c.len-number.ensures.len i })
