use Rattle.std.proofs.Common.{subst}
use Rattle.df_level.specs.Levels.{rows_of}
use Rattle.df_elim.specs.Elimination.{TellsElimination}
use Rattle.df_lin.specs.Verdict.{combinations_of}
use Rattle.df_lin.proofs.Whole.{ok_weaker, refuted_verdict}
use Rattle.df_lin.proofs.refutation.refute.Goals as goal

pub returns-in_ok-multipliers-in-Refuted : goal.returns-in_ok-multipliers-in-Refuted
returns-in_ok-multipliers-in-Refuted c =
    let refuted = subst (TellsElimination (rows_of c.args.rows.now)) c.in-Refuted.is c.in_ok-levels.ensures in
    refuted_verdict (rows_of c.args.rows.now) c.in-Refuted.levels.items (combinations_of c.in_ok-multipliers-in-Refuted.field-0) refuted c.in_ok-multipliers-in-Refuted.ensures

pub returns-in-Open : goal.returns-in-Open
returns-in-Open c =
    let whole = subst (TellsElimination (rows_of c.args.rows.now)) c.in-Open.is c.in_ok-levels.ensures in
    ok_weaker c.substitute.result _ _ (λ verdict tells. tells (rows_of c.args.rows.now) whole) c.substitute.ensures
