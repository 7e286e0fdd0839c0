-- What the flow of definite assignment says of locals that are not declared: nothing.
use Rattle.std.specs.Prelude.{◌≡◌, ◌<◌, ℕ, true}
use Rattle.df_lang.specs.Assignment.{Assigned, Unreached, Reached}

-- the flow says of the first locals alone that they have a value, as many as are declared
abbrev pub AreDeclared : ℕ → Assigned → Type 0
AreDeclared size Unreached = Unit {0}
AreDeclared size (Reached set) = (local : ℕ) → set local ≡ true → local < size
