use Rattle.std.proofs.Common.{◌≡◌, ◌++◌}
use Rattle.df_gen.specs.GeneratedSource.{call_text, lines_below}
use Rattle.df_gen.proofs.text.push_calls.Given as goal

abbrev pub invariant-loop-number : goal.invariant-loop-number
invariant-loop-number l = l.text.items ≡ l.initial.text.items ++ lines_below call_text l.number
