use Rattle.std.proofs.Common.{ap, ◌∙◌}
use Rattle.df_form.specs.Node.{Node, number_of}
use Rattle.df_form.proofs.front.FrontNodeTable.find.Goals as goal

pub returns : goal.returns
returns c =
    let node : Node = record { op = c.args.op.now; parts = c.args.parts.now } in
    c.find.ensures ∙ ap (λ nodes. number_of nodes node) c.lent.ensures
