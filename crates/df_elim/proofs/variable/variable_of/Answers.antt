use Rattle.std.proofs.Common.{get_or, pos}
use Rattle.df_level.specs.Row.{function_row}
use Rattle.df_elim.specs.Elimination.{low_after}
use Rattle.df_elim.proofs.Variables.{passing_begins, passing_next, passing_ends, found, is_before}
use Rattle.df_elim.proofs.variable.variable_of.Goals as goal

pub loop-node-init : goal.loop-node-init
loop-node-init c = passing_begins (low_after c.args.last) c.entries-node-items.result.now c.entries-node-items.ensures.ordered

pub returns-then-is_after : goal.returns-then-is_after
returns-then-is_after c = found (low_after c.args.last) c.loop-node.node-index c.entries-node-items.result.now c.loop-node.invariant (function_row c.args.row.now) c.entries-node-items.ensures.coefficients c.loop-node-test.true (c.is_after.ensures.0 c.if-is_after.true)

pub loop-node-preserved : goal.loop-node-preserved
loop-node-preserved c =
    let all = c.entries-node-items.result.now in
    let i = c.loop-node.node-index in
    let low = low_after c.args.last in
    passing_next low i all c.loop-node.invariant c.loop-node-test.true (is_before low (get_or all i (0, pos 0)).0 c.is_after.result c.is_after.ensures c.if-is_after.false)

pub returns : goal.returns
returns c = passing_ends (low_after c.args.last) c.loop-node.node-index c.entries-node-items.result.now c.loop-node.invariant (function_row c.args.row.now) c.entries-node-items.ensures.coefficients c.loop-node-test.false
