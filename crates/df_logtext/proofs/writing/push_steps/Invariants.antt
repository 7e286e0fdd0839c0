use Rattle.std.proofs.Common.{map, take}
use Rattle.std.specs.List.{AllByRecursion}
use Rattle.df_logtext.specs.HasText.{HasNumbers}
use Rattle.df_logtext.specs.StepText.{step_line}
use Rattle.df_logtext.specs.LogText.{text_of_lines}
use Rattle.df_logtext.specs.View.{names_of, log_of}
use Rattle.df_logtext.specs.Writes.{Writes}
use Rattle.df_logtext.proofs.writing.push_steps.Given as goal

abbrev pub invariant-loop-step : goal.invariant-loop-step
invariant-loop-step l = Writes l.initial.text.items l.text.items (text_of_lines (map (step_line (names_of l.names)) (log_of (take l.step-index l.steps)))) (AllByRecursion HasNumbers (log_of (take l.step-index l.steps)))
