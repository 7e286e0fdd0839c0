use Rattle.std.proofs.Common.{◌≡◌, ◌++◌}
use Rattle.df_gen.specs.GeneratedSource.{method_text, lines_below, state_after, factor}
use Rattle.df_gen.proofs.text.push_methods.Given as goal

abbrev pub invariant-loop-number : goal.invariant-loop-number
invariant-loop-number l = record {
  text : l.text.items ≡ l.initial.text.items ++ lines_below (λ number. method_text number (factor l.seed number)) l.number;
  state : l.generator.state ≡ state_after l.seed l.number;
}
