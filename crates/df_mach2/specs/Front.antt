-- States with a text in front of what they print.
use Rattle.std.specs.Prelude.{ℕ, List, ◌++◌}
use Rattle.df_mach2.specs.State.{State}
use Rattle.df_mach2.specs.Step.{Stepped, On, Ended, Fault, Huge}

-- the state with a text in front of its own
abbrev pub with_front : List ℕ → State → State
with_front text s = record { heap = s.heap; frames = s.frames; text = text ++ s.text }

-- what a state goes to, with a text in front
abbrev pub all_with_front : List ℕ → Stepped → Stepped
all_with_front text (On s) = On (with_front text s)
all_with_front text (Ended f) = Ended (record { results = f.results; heap = f.heap; text = text ++ f.text })
all_with_front text Fault = Fault
all_with_front text Huge = Huge
