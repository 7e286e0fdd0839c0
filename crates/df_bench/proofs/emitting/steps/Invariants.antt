use Rattle.df_bench.specs.Steps.{AreSteps}
use Rattle.df_bench.proofs.emitting.steps.Given as goal

abbrev pub invariant-loop : goal.invariant-loop
invariant-loop l = AreSteps l.bits.low l.bits.high l.body.items
