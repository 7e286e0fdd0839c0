use Rattle.df_groups2.specs.Searching.{EnterEach}
use Rattle.df_groups2.proofs.finishing.enter_each.Given as goal

abbrev pub invariant-loop-vertex : goal.invariant-loop-vertex
invariant-loop-vertex l = EnterEach l.vertex l.steps.items
