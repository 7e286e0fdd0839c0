-- Which steps print something.
use Rattle.std.specs.Prelude.{ℕ, Bool, true, false, List, [], ◌∷◌}
use Rattle.df_nmach.specs.State.{Code, State}
use Rattle.df_nmach.specs.Step.{Stepped, On, machine_step}

-- whether a text has a byte
abbrev pub is_some : List ℕ → Bool
is_some [] = false
is_some (c ∷ cs) = true

-- whether what a state that has printed nothing goes to has printed something
abbrev pub has_printed : Stepped → Bool
has_printed (On next) = is_some next.text
has_printed o = false

-- whether the step from a state that has printed nothing prints something
abbrev pub step_prints : Code → State → Bool
step_prints code s = has_printed (machine_step code s)
