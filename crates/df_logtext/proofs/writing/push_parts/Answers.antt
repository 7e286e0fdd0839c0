use Rattle.std.proofs.Common.{map}
use Rattle.df_form.specs.Log.{step_of}
use Rattle.df_logtext.specs.View.{names_of}
use Rattle.df_logtext.proofs.Parts.{part_more}
use Rattle.df_logtext.proofs.writing.push_parts.Goals as goal

pub loop-number-preserved : goal.loop-number-preserved
loop-number-preserved c =
    part_more (names_of c.args.names.now) (λ log. map step_of log.items) c.args.logs.now c.loop-number.number c.index-logs-number.result c.loop-number-test.true c.index-logs-number.is _ _ _
    c.loop-number.invariant (rw c.deref.ensures.value at c.in_ok-push_part.ensures)
