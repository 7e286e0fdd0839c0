-- Which locals have a value, as the code lists them.
use Rattle.std.specs.Prelude.{ℕ, zero, suc, ◌+◌, ◌-◌, nat_le, nat_lt, Bool, true, false, ◌&&◌, List, [], ◌∷◌, get_or, set}

-- a local that is not listed has no value
abbrev pub holds : List Bool → ℕ → Bool
holds values local = get_or values local false

-- without the values of some locals
abbrev pub cleared : List Bool → List ℕ → List Bool
cleared values [] = values
cleared values (local ∷ others) = cleared (set values local false) others

-- it is one of so many locals, from one on
abbrev pub is_counted : ℕ → ℕ → ℕ → Bool
is_counted from count local = nat_le from local && nat_lt (local - from) count

abbrev pub number_without : Bool → ℕ
number_without true = 0
number_without false = 1

-- how many of so many locals, from one on, have no value
abbrev pub without : (ℕ → Bool) → ℕ → ℕ → ℕ
without has from zero = 0
without has from (suc count) = number_without (has from) + without has (suc from) count
