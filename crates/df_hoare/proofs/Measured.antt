-- Whole runs in which measures are evaluated too: of a method where it begins, of a loop before each turn.
use Rattle.std.specs.Prelude.{ℕ, List}
use Rattle.std.specs.Option.{option_map_or}
use Rattle.df_base.specs.declared.pos.Pos.{Pos}
use Rattle.df_lang.specs.Program.{Method, Program, method_at}
use Rattle.df_lang.specs.Measures.{loop_measure, method_measure}
use Rattle.df_meaning.specs.Value.{Value}
use Rattle.df_meaning.specs.Outcome.{Outcome, Dismissed, after}
use Rattle.df_meaning.specs.State.{Store, State, begin}
use Rattle.df_meaning.specs.Meaning.{Meaning, Flow, Returned, Loop}
use Rattle.df_meaning.specs.Whole.{check_call, run_method, turn_by, by_depth}
use Rattle.df_meaning.specs.Modular.{measure_values}

abbrev pub measured_method : Meaning → Pos → Method → List Value → Store → Outcome Returned
measured_method m pos method arguments store =
    after (check_call m (begin arguments store) pos method.preconditions) (λ s.
    after (measure_values m s (method_measure method)) (λ entry.
    run_method m pos method arguments store))

abbrev pub measured_call : Meaning → Pos → ℕ → List Value → Store → Outcome Returned
measured_call m pos callee arguments store = option_map_or (λ method. measured_method m pos method arguments store) (method_at m.program callee) Dismissed

abbrev pub measured_turn : Meaning → Loop → State → Outcome Flow
measured_turn m loop s = after (measure_values m s (loop_measure loop.guard loop.decreases)) (λ before. turn_by m loop s)

-- what whole runs give with their measures
abbrev pub measured : Program → ℕ → Meaning
measured program depth = by_depth measured_call measured_turn program depth
