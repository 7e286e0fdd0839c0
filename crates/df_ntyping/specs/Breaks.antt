-- Which node breaks which rule. Each rule is said by itself, whatever else is broken.
use Rattle.std.specs.Prelude.{◌≡◌, Bool, true}
use Rattle.df_ntyping.specs.Environment.{Environment}
use Rattle.df_ntyping.specs.Node.{Node}
use Rattle.df_ntyping.specs.Rule.{Rule, Unknown, Twice, Typing, Uninferred, Range, Given, Arithmetic, Order, Equality, Direction, Truths, ArgumentCount, Calls, Casts, Assigned, Returned, Broken, Clauses}
use Rattle.df_ntyping.specs.rules.Names.{breaks_unknown, breaks_twice, breaks_uninferred}
use Rattle.df_ntyping.specs.rules.Values.{breaks_given}
use Rattle.df_ntyping.specs.rules.Operands.{breaks_arithmetic, breaks_casts}
use Rattle.df_ntyping.specs.rules.Comparisons.{breaks_order, breaks_equality, breaks_direction}
use Rattle.df_ntyping.specs.rules.Truths.{breaks_truths}
use Rattle.df_ntyping.specs.rules.Calls.{breaks_argument_count, breaks_calls}
use Rattle.df_ntyping.specs.rules.Assignments.{breaks_assigned, breaks_returned}
use Rattle.df_ntyping.specs.rules.Loops.{breaks_broken, breaks_clauses}
use Rattle.df_ntyping.specs.rules.Newtypes.{breaks_range}

abbrev pub breaks : Environment → Node → Rule → Bool
breaks env node Unknown = breaks_unknown env node
breaks env node Twice = breaks_twice env node
breaks env node (Typing Given) = breaks_given env node
breaks env node (Typing Arithmetic) = breaks_arithmetic env node
breaks env node (Typing Order) = breaks_order env node
breaks env node (Typing Equality) = breaks_equality env node
breaks env node (Typing Direction) = breaks_direction env node
breaks env node (Typing Truths) = breaks_truths env node
breaks env node (Typing ArgumentCount) = breaks_argument_count env node
breaks env node (Typing Calls) = breaks_calls env node
breaks env node (Typing Casts) = breaks_casts env node
breaks env node (Typing Assigned) = breaks_assigned env node
breaks env node (Typing Returned) = breaks_returned env node
breaks env node (Typing Broken) = breaks_broken env node
breaks env node (Typing Clauses) = breaks_clauses env node
breaks env node Uninferred = breaks_uninferred env node
breaks env node Range = breaks_range env node

abbrev pub Breaks : Environment → Node → Rule → Type 0
Breaks env node rule = breaks env node rule ≡ true
