use Rattle.df_form.specs.Log.{step_of}
use Rattle.df_logtext.specs.HasText.{HasNumbers}
use Rattle.df_logtext.specs.StepText.{step_line}
use Rattle.df_logtext.specs.View.{names_of}
use Rattle.df_logtext.proofs.EachWritten.{line_more}
use Rattle.df_logtext.proofs.writing.push_steps.Goals as goal

pub loop-step-preserved : goal.loop-step-preserved
loop-step-preserved c =
    let l = c.loop-step in
    line_more step_of HasNumbers c.args.steps.now l.step-index c.step-item.result c.loop-step-test.true c.step-item.is _ _ _ (step_line (names_of c.args.names.now)) l.invariant c.in_ok-push_step.ensures
