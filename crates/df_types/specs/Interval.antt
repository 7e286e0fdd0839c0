-- Intervals of whole numbers.
use Rattle.std.specs.Prelude.{ℤ, ◌≤ℤ◌}

-- low <= number <= high
abbrev pub IsWithin : ℤ → ℤ → ℤ → Type 0
IsWithin low high number = (low ≤ℤ number) × (number ≤ℤ high)
