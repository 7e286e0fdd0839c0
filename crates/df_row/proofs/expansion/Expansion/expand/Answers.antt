use Rattle.std.proofs.Common.{◌∙◌, sym, ap, Some}
use Rattle.df_row.specs.Row.{expanded_below}
use Rattle.df_row.specs.RowView.{IsLastBelow}
use Rattle.df_row.specs.ExpansionView.{expansion_of}
use Rattle.df_row.proofs.Rows.{goes_down, is_down}
use Rattle.df_row.proofs.expansion.Expansion.expand.Goals as goal

pub loop-node-preserved : goal.loop-node-preserved
loop-node-preserved c =
    let nodes = c.args.nodes.now in
    let row = expansion_of c.loop-node.self in
    let last : IsLastBelow c.loop-node.bound row (Some c.in-Some.node) = c.in-Some.ensures in
    ap (expanded_below nodes c.in-Some.node) c.in_ok-expand_at.ensures ∙ sym (goes_down nodes c.loop-node.bound c.in-Some.node row last) ∙ c.loop-node.invariant

pub returns : goal.returns
returns c = sym (is_down c.args.nodes.now c.loop-node.bound (expansion_of c.loop-node.self) c.in_default.ensures) ∙ c.loop-node.invariant
