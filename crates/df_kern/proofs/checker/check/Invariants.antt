use Rattle.std.proofs.Common.{map}
use Rattle.df_form.specs.Log.{step_of}
use Rattle.df_form.specs.SequentView.{sequent_of}
use Rattle.df_kern.specs.CheckerView.{goal_of, state_of}
use Rattle.df_kern.proofs.Checks.{IsAt}
use Rattle.df_kern.proofs.checker.check.Given as goal

abbrev pub invariant-loop-step : goal.invariant-loop-step
invariant-loop-step l = IsAt (sequent_of l.fn.sequent) (map step_of l.log) l.step-index (goal_of l.checker) (state_of l.checker) l.checker.taken
