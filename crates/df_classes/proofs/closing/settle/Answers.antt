use Rattle.std.proofs.Common.{List, ℕ, [], get_or, refl, sym, subst, arith}
use Rattle.df_classes.specs.mirror.Steps.{Advances}
use Rattle.df_classes.proofs.Advancing.{advances_none, advances_on, advances_all}
use Rattle.df_classes.proofs.Retreating.{extends_none, extends_then}
use Rattle.df_classes.proofs.closing.settle.Goals as goal

pub loop-node-init : goal.loop-node-init
loop-node-init c = (
  subst (λ (later : List ℕ). Advances c.args.nodes.now c.args.partition.now c.args.partition.now [] [] later) (sym c.new-later.ensures.items) (advances_none c.args.nodes.now c.args.partition.now c.requires.ready),
  extends_none c.args.partition.now c.args.partition.now refl refl refl,
)

pub look_at-requires-clause-ready : goal.look_at-requires-clause-ready
look_at-requires-clause-ready c = c.loop-node.invariant.0.ready

pub returns-in_err-look_at-clause-extends : goal.returns-in_err-look_at-clause-extends
returns-in_err-look_at-clause-extends c = extends_then c.args.partition.now c.loop-node.partition c.look_at.new.partition c.loop-node.invariant.1 c.look_at.ensures.extends

pub loop-node-preserved : goal.loop-node-preserved
loop-node-preserved c =
    let waiting = c.args.waiting.now in
    let i = c.loop-node.node-index in (
      advances_on c.args.nodes.now c.args.partition.now c.loop-node.partition c.look_at.new.partition waiting i (get_or waiting i 0) c.loop-node.later.items c.look_at.new.waiting.items (omega arith) refl c.loop-node.invariant.0 c.in_ok-look_at.ensures.advances,
      extends_then c.args.partition.now c.loop-node.partition c.look_at.new.partition c.loop-node.invariant.1 c.look_at.ensures.extends,
    )

pub returns-clause-advances : goal.returns-clause-advances
returns-clause-advances c = advances_all c.args.nodes.now c.args.partition.now c.loop-node.partition c.args.waiting.now c.loop-node.node-index c.loop-node.later.items (omega arith) c.loop-node.invariant.0

pub returns-clause-extends : goal.returns-clause-extends
returns-clause-extends c = c.loop-node.invariant.1
