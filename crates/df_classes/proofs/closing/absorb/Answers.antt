use Rattle.std.proofs.Common.{List, ℕ, ◌++◌, get_or, refl, ap, ◌∙◌, arith}
use Rattle.df_classes.proofs.Absorbing.{absorbing_begins, absorbing_on, absorbs, node_in}
use Rattle.df_classes.proofs.Retreating.{extends_none, extends_then}
use Rattle.df_classes.proofs.closing.absorb.Goals as goal

pub returns-in_err-leaving-clause-extends : goal.returns-in_err-leaving-clause-extends
returns-in_err-leaving-clause-extends c = extends_none c.args.partition.now c.args.partition.now refl refl refl

pub loop-node-init : goal.loop-node-init
loop-node-init c =
    absorbing_begins c.args.users.now c.args.winner c.args.loser c.deref-node-items.result.now c.args.partition.now c.args.waiting.now.items (c.deref-node-items.ensures.value ∙ c.in_ok-leaving.ensures.items ∙ c.members.ensures) c.requires

pub relabel-requires-clause-node : goal.relabel-requires-clause-node
relabel-requires-clause-node c =
    node_in c.args.users.now c.args.winner c.deref-node-items.result.now c.args.partition.now c.loop-node.partition c.args.waiting.now.items c.loop-node.waiting.items c.loop-node.node-index (omega arith) c.loop-node.invariant

pub relabel-requires-clause-label : goal.relabel-requires-clause-label
relabel-requires-clause-label c = c.loop-node.invariant.winner_in

pub returns-in_err-relabel-clause-pairs : goal.returns-in_err-relabel-clause-pairs
returns-in_err-relabel-clause-pairs c = c.relabel.ensures.pairs ∙ c.loop-node.invariant.pairs

pub returns-in_err-relabel-clause-extends : goal.returns-in_err-relabel-clause-extends
returns-in_err-relabel-clause-extends c = extends_then c.args.partition.now c.loop-node.partition c.relabel.new.self c.loop-node.invariant.extends c.relabel.ensures.extends

pub returns-in_err-extend_from_slice-clause-pairs : goal.returns-in_err-extend_from_slice-clause-pairs
returns-in_err-extend_from_slice-clause-pairs c = c.relabel.ensures.pairs ∙ c.loop-node.invariant.pairs

pub returns-in_err-extend_from_slice-clause-extends : goal.returns-in_err-extend_from_slice-clause-extends
returns-in_err-extend_from_slice-clause-extends c = extends_then c.args.partition.now c.loop-node.partition c.relabel.new.self c.loop-node.invariant.extends c.relabel.ensures.extends

pub loop-node-preserved : goal.loop-node-preserved
loop-node-preserved c =
    let leaving = c.deref-node-items.result.now in
    let i = c.loop-node.node-index in
    absorbing_on c.args.users.now c.args.winner leaving c.args.partition.now c.loop-node.partition c.relabel.new.self c.args.waiting.now.items c.loop-node.waiting.items c.extend_from_slice.new.self.items i (get_or leaving i 0) (omega arith) refl
    c.loop-node.invariant c.in_ok-relabel.ensures.moved c.relabel.ensures.pairs c.relabel.ensures.extends (c.in_ok-extend_from_slice.ensures.items ∙ ap (λ (xs : List ℕ). c.loop-node.waiting.items ++ xs) c.list.ensures)

pub returns-clause-absorbs : goal.returns-clause-absorbs
returns-clause-absorbs c =
    absorbs c.args.users.now c.args.winner c.args.loser c.deref-node-items.result.now c.args.partition.now c.loop-node.partition c.args.waiting.now.items c.loop-node.waiting.items c.loop-node.node-index (c.deref-node-items.ensures.value ∙ c.in_ok-leaving.ensures.items ∙ c.members.ensures)
    c.requires (omega arith) c.loop-node.invariant

pub returns-clause-pairs : goal.returns-clause-pairs
returns-clause-pairs c = c.loop-node.invariant.pairs

pub returns-clause-extends : goal.returns-clause-extends
returns-clause-extends c = c.loop-node.invariant.extends
