use Rattle.std.proofs.Common.{length, get_or, refl, arith}
use Rattle.df_form.specs.Clause.{no}
use Rattle.df_classes.specs.PartitionView.{state_of}
use Rattle.df_cong.proofs.Replaying.{unites_none, sides_on, sides_all}
use Rattle.df_cong.proofs.replay.unite_all_sides.Goals as goal

pub loop-literal-init : goal.loop-literal-init
loop-literal-init c = unites_none (length c.args.nodes.now) (state_of c.args.partition.now) c.requires

pub unite_sides-requires : goal.unite_sides-requires
unite_sides-requires c = c.loop-literal.invariant.partition

pub loop-literal-preserved : goal.loop-literal-preserved
loop-literal-preserved c =
    let literals = c.args.literals.now in
    let i = c.loop-literal.literal-index in
    sides_on c.args.nodes.now literals i (no 0) (get_or literals i (no 0)) (state_of c.args.partition.now) (state_of c.loop-literal.partition) (state_of c.unite_sides.new.partition) (omega arith) refl c.loop-literal.invariant c.in_ok-unite_sides.ensures

pub returns : goal.returns
returns c = sides_all c.args.nodes.now c.args.literals.now c.loop-literal.literal-index (state_of c.args.partition.now) (state_of c.loop-literal.partition) (omega arith) c.loop-literal.invariant
