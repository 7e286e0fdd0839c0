use Rattle.std.proofs.Common.{ℕ, List, sym, subst, arith}
use Rattle.df_classes.proofs.NumberNodes.{AreNumbersBelow, no_numbers, all_numbers}
use Rattle.df_cong.proofs.clash.numbers.Goals as goal

pub loop-node-init : goal.loop-node-init
loop-node-init c = subst (λ (ns : List ℕ). AreNumbersBelow c.args.nodes.now ns 0) (sym c.new-numbers.ensures.items) (no_numbers c.args.nodes.now)

pub returns : goal.returns
returns c = all_numbers c.args.nodes.now c.loop-node.numbers.items c.loop-node.node (omega arith) c.loop-node.invariant
