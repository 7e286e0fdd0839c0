use Rattle.std.proofs.Common.{get_or, refl, sym, arith, true≢false}
use Rattle.df_form.specs.declared.log.Pair.{Pair}
use Rattle.df_classes.specs.PartitionView.{state_of}
use Rattle.df_cong.proofs.Replaying.{alike_none, alike_on, alike_all}
use Rattle.df_cong.proofs.replay.unite_all_alike.Goals as goal

pub loop-pair-init : goal.loop-pair-init
loop-pair-init c = alike_none c.args.nodes.now (state_of c.args.partition.now) c.requires

pub unite_alike-requires : goal.unite_alike-requires
unite_alike-requires c = c.loop-pair.invariant.unites.partition

pub returns-then-not-branch : goal.returns-then-not-branch
returns-then-not-branch c = λ e. absurd (true≢false (sym e))

pub loop-pair-preserved : goal.loop-pair-preserved
loop-pair-preserved c =
    let pairs = c.args.pairs.now in
    let i = c.loop-pair.pair-index in
    let d : Pair = record { left = 0; right = 0 } in
    alike_on c.args.nodes.now pairs i d (get_or pairs i d) (state_of c.args.partition.now) (state_of c.loop-pair.partition) (state_of c.unite_alike.new.partition) (omega arith) refl c.loop-pair.invariant (c.in_ok-unite_alike.ensures c.if-not-branch.false)

pub returns : goal.returns
returns c = λ e. alike_all c.args.nodes.now c.args.pairs.now c.loop-pair.pair-index (state_of c.args.partition.now) (state_of c.loop-pair.partition) (omega arith) c.loop-pair.invariant
