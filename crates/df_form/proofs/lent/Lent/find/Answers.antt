use Rattle.std.proofs.Common.{◌∙◌, sym, ap}
use Rattle.df_form.specs.Node.{Node, number_of}
use Rattle.df_form.proofs.Pushing.{number-taken, number-cut, number-nowhere}
use Rattle.df_form.proofs.lent.Lent.find.Goals as goal

pub returns-in-Some : goal.returns-in-Some
returns-in-Some c =
    let node : Node = record { op = c.args.op.now; parts = c.args.parts.now } in
    sym (number-taken c.self.inside.nodes.now node c.self.inside.count c.in-Some.number c.len-len.ensures.table (sym c.in-Some.ensures) c.if-number-self.true) ∙ ap (λ nodes. number_of nodes node) c.self.view_is

pub returns-in_default : goal.returns-in_default
returns-in_default c =
    let node : Node = record { op = c.args.op.now; parts = c.args.parts.now } in
    sym (number-cut c.self.inside.nodes.now node c.self.inside.count c.in-Some.number c.len-len.ensures.table (sym c.in-Some.ensures) c.if-number-self.false) ∙ ap (λ nodes. number_of nodes node) c.self.view_is

pub returns-in_default-2 : goal.returns-in_default-2
returns-in_default-2 c =
    let node : Node = record { op = c.args.op.now; parts = c.args.parts.now } in
    sym (number-nowhere c.self.inside.nodes.now node c.self.inside.count (sym c.in_default.ensures)) ∙ ap (λ nodes. number_of nodes node) c.self.view_is
