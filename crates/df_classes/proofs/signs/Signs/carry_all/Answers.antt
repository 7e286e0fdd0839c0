use Rattle.std.proofs.Common.{refl, sym, ◌∙◌, arith, true≢false}
use Rattle.df_classes.specs.PartitionView.{state_of}
use Rattle.df_classes.specs.SignsView.{tables_of}
use Rattle.df_classes.proofs.Stamping.{tables_same, tables_then}
use Rattle.df_classes.proofs.Carrying.{carries_none, carries_on, carries_whole}
use Rattle.df_classes.proofs.signs.Signs.carry_all.Goals as goal

pub loop-place-init : goal.loop-place-init
loop-place-init c = (tables_same c.args.held (tables_of c.args.self.now), carries_none c.args.nodes.now (state_of c.args.partition.now) c.args.held c.args.partition.now.trail.items c.args.from (tables_of c.args.self.now), refl)

pub returns-in_err-carry-clause-keeps : goal.returns-in_err-carry-clause-keeps
returns-in_err-carry-clause-keeps c = tables_then c.args.held (tables_of c.args.self.now) (tables_of c.loop-place.self) (tables_of c.carry.new.self) c.loop-place.invariant.0 c.carry.ensures.keeps

pub returns-in_err-carry-clause-covered : goal.returns-in_err-carry-clause-covered
returns-in_err-carry-clause-covered c = c.carry.ensures.covered ∙ c.loop-place.invariant.2

pub returns-then-not-branch-clause-carries : goal.returns-then-not-branch-clause-carries
returns-then-not-branch-clause-carries c = λ e. absurd (true≢false (sym e))

pub returns-then-not-branch-clause-keeps : goal.returns-then-not-branch-clause-keeps
returns-then-not-branch-clause-keeps c = tables_then c.args.held (tables_of c.args.self.now) (tables_of c.loop-place.self) (tables_of c.carry.new.self) c.loop-place.invariant.0 c.carry.ensures.keeps

pub returns-then-not-branch-clause-covered : goal.returns-then-not-branch-clause-covered
returns-then-not-branch-clause-covered c = c.carry.ensures.covered ∙ c.loop-place.invariant.2

pub loop-place-preserved : goal.loop-place-preserved
loop-place-preserved c =
    let old = tables_of c.args.self.now in
    let mid = tables_of c.loop-place.self in
    let new = tables_of c.carry.new.self in (
      tables_then c.args.held old mid new c.loop-place.invariant.0 c.carry.ensures.keeps,
      carries_on c.args.nodes.now (state_of c.args.partition.now) c.args.held c.args.partition.now.trail.items c.args.from c.loop-place.place old mid new c.loop-place.invariant.1 c.loop-place.invariant.0 c.carry.ensures.keeps (c.in_ok-carry.ensures.carries c.if-not-branch.false),
      c.carry.ensures.covered ∙ c.loop-place.invariant.2,
    )

pub returns-clause-carries : goal.returns-clause-carries
returns-clause-carries c = λ e.
    carries_whole c.args.nodes.now (state_of c.args.partition.now) c.args.held c.args.partition.now.trail.items c.args.from c.loop-place.place (tables_of c.args.self.now) (tables_of c.loop-place.self) (omega (arith, c.changes-place-end.ensures)) c.loop-place.invariant.1

pub returns-clause-keeps : goal.returns-clause-keeps
returns-clause-keeps c = c.loop-place.invariant.0

pub returns-clause-covered : goal.returns-clause-covered
returns-clause-covered c = c.loop-place.invariant.2
