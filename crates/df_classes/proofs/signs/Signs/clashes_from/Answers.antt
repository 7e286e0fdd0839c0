use Rattle.std.proofs.Common.{sym, ◌∙◌, arith, true≢false}
use Rattle.df_classes.specs.PartitionView.{state_of}
use Rattle.df_classes.specs.SignsView.{tables_of}
use Rattle.df_classes.proofs.Carrying.{calm_on}
use Rattle.df_classes.proofs.signs.Signs.clashes_from.Goals as goal

pub loop-place-init : goal.loop-place-init
loop-place-init c = λ p late early. absurd (omega (arith, late, early))

pub returns-then-clashes_by : goal.returns-then-clashes_by
returns-then-clashes_by c = λ e. absurd (true≢false e)

pub loop-place-preserved : goal.loop-place-preserved
loop-place-preserved c =
    calm_on c.args.nodes.now c.args.users.now (state_of c.args.partition.now) c.args.held (tables_of c.args.self.now) c.args.partition.now.trail.items c.args.from c.loop-place.place c.loop-place.invariant (sym c.clashes_by.ensures ∙ c.if-clashes_by.false)

pub returns : goal.returns
returns c = λ e p late early. c.loop-place.invariant p late (omega (arith, early, c.changes-place-end.ensures))
