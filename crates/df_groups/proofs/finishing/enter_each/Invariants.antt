use Rattle.df_groups.specs.Searching.{EnterEach}
use Rattle.df_groups.proofs.finishing.enter_each.Given as goal

abbrev pub invariant-loop-vertex : goal.invariant-loop-vertex
invariant-loop-vertex l = EnterEach l.vertex l.steps.items
