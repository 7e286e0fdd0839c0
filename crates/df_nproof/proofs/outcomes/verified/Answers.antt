use Rattle.std.proofs.Common.{map}
use Rattle.df_report.specs.View.{outcome_of}
use Rattle.df_nproof.proofs.Declarations.{outcomes_more, outcomes_all}
use Rattle.df_nproof.proofs.outcomes.verified.Goals as goal

pub loop-decl-preserved : goal.loop-decl-preserved
loop-decl-preserved c =
    outcomes_more c.deref-decl-items.result.now c.loop-decl.decl-index c.decl-item.result (map outcome_of c.loop-decl.outcomes.items) (map outcome_of c.add.new.outcomes.items) c.loop-decl-test.true c.decl-item.is c.loop-decl.invariant c.in_ok-add.ensures

pub returns : goal.returns
returns c = rw c.deref-decl-items.ensures.value at (outcomes_all c.deref-decl-items.result.now c.loop-decl.decl-index (map outcome_of c.loop-decl.outcomes.items) c.loop-decl-test.false c.loop-decl.invariant)
