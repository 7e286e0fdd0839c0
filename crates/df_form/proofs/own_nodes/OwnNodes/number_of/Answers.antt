use Rattle.std.proofs.Common.{refl, ap, ◌∙◌}
use Rattle.df_form.specs.Node.{Node, number_of}
use Rattle.df_form.proofs.KeyedNodes.{found-by_key, not_by-list}
use Rattle.df_form.proofs.own_nodes.OwnNodes.number_of.Goals as goal

pub returns-in-Some : goal.returns-in-Some
returns-in-Some c =
    let node : Node = record { op = c.args.op.now; parts = c.args.parts.now } in
    c.get_index_of.ensures.index
    ∙ found-by_key c.self.inside.nodes.entries c.self.inside.lists (record { op = c.args.op.now; list = c.in-Some.list }) node c.self.invariant refl c.in-Some.ensures.found c.in-Some.ensures.only
    ∙ ap (λ nodes. number_of nodes node) c.self.view_is

pub returns-in-None : goal.returns-in-None
returns-in-None c =
    let node : Node = record { op = c.args.op.now; parts = c.args.parts.now } in
    not_by-list c.self.inside.nodes.entries c.self.inside.lists node c.self.invariant c.in-None.ensures.none ∙ ap (λ nodes. number_of nodes node) c.self.view_is
