use Rattle.std.proofs.Common.{◌∙◌, ◌+◌, ℕ, sym, ap, Some}
use Rattle.df_form.specs.Node.{Node, number_of}
use Rattle.df_form.proofs.Pushing.{number-ahead, number-behind, number-in-neither}
use Rattle.df_form.proofs.over.OverNodeTable.find.Goals as goal

pub returns-in-Some : goal.returns-in-Some
returns-in-Some c =
    let node : Node = record { op = c.args.op.now; parts = c.args.parts.now } in
    sym (number-ahead c.self.inside.front c.self.inside.own node c.in-Some.number c.self.invariant.0 (sym c.in-Some.ensures)) ∙ ap (λ nodes. number_of nodes node) c.self.view_is

pub returns-in-Some-number_of : goal.returns-in-Some-number_of
returns-in-Some-number_of c =
    let node : Node = record { op = c.args.op.now; parts = c.args.parts.now } in
    let here = number-behind c.self.inside.front c.self.inside.own node c.in-Some-number_of.number c.self.invariant.0 (sym c.in-Some-number_of.ensures) in
    ap (λ (k : ℕ). Some (k + c.in-Some-number_of.number)) c.len.ensures.len ∙ sym here ∙ ap (λ nodes. number_of nodes node) c.self.view_is

pub returns-in-None-number_of : goal.returns-in-None-number_of
returns-in-None-number_of c =
    let node : Node = record { op = c.args.op.now; parts = c.args.parts.now } in
    sym (number-in-neither c.self.inside.front c.self.inside.own node (sym c.in-None.ensures) (sym c.in-None-number_of.ensures)) ∙ ap (λ nodes. number_of nodes node) c.self.view_is
