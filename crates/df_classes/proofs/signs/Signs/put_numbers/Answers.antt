use Rattle.std.proofs.Common.{get_or, refl, sym, subst, arith, true≢false}
use Rattle.std.proofs.lemmas.List.{take_all}
use Rattle.df_classes.specs.PartitionView.{state_of}
use Rattle.df_classes.specs.SignsView.{tables_of, PutsNumbers}
use Rattle.df_classes.specs.mirror.Signs.{Tables}
use Rattle.df_classes.proofs.Stamping.{tables_same, tables_then, slots_kept}
use Rattle.df_classes.proofs.Carrying.{puts_none, puts_on, number_put}
use Rattle.df_classes.proofs.signs.Signs.put_numbers.Goals as goal

pub loop-node-init : goal.loop-node-init
loop-node-init c = (tables_same 0 (tables_of c.args.self.now), puts_none c.args.nodes.now (state_of c.args.partition.now) (tables_of c.args.self.now), refl)

pub returns-then-not-branch-clause-puts : goal.returns-then-not-branch-clause-puts
returns-then-not-branch-clause-puts c = λ e. absurd (true≢false (sym e))

pub returns-then-not-branch-clause-keeps : goal.returns-then-not-branch-clause-keeps
returns-then-not-branch-clause-keeps c = tables_then 0 (tables_of c.args.self.now) (tables_of c.loop-node.self) _ c.loop-node.invariant.0 (slots_kept 0 (tables_of c.loop-node.self) c.put_number.new.self.slots.items c.put_number.ensures.keeps)

pub loop-node-preserved : goal.loop-node-preserved
loop-node-preserved c =
    let nodes = c.args.nodes.now in
    let s = state_of c.args.partition.now in
    let ns = c.args.numbers.now in
    let i = c.loop-node.node-index in
    let x = get_or ns i 0 in
    let mid = tables_of c.loop-node.self in
    let new : Tables = record { positives = mid.positives; negatives = mid.negatives; slots = c.put_number.new.self.slots.items } in (
      tables_then 0 (tables_of c.args.self.now) mid new c.loop-node.invariant.0 (slots_kept 0 mid c.put_number.new.self.slots.items c.put_number.ensures.keeps),
      puts_on nodes s ns i x mid new (omega arith) refl c.loop-node.invariant.1 c.put_number.ensures.keeps (number_put nodes s x c.label.result mid.slots c.put_number.new.self.slots.items c.label.ensures (c.in_ok-put_number.ensures.puts c.if-not-branch.false)),
      c.loop-node.invariant.2,
    )

pub returns-clause-puts : goal.returns-clause-puts
returns-clause-puts c = λ e.
    subst (λ ns. PutsNumbers c.args.nodes.now (state_of c.args.partition.now) ns (tables_of c.loop-node.self)) (take_all c.loop-node.node-index c.args.numbers.now (omega arith)) c.loop-node.invariant.1

pub returns-clause-keeps : goal.returns-clause-keeps
returns-clause-keeps c = c.loop-node.invariant.0

pub returns-clause-covered : goal.returns-clause-covered
returns-clause-covered c = c.loop-node.invariant.2
