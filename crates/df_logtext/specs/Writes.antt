-- What a writer leaves.
use Rattle.std.specs.Prelude.{◌≡◌, ℕ, List, ◌++◌}

-- The buffer has this text behind what stood in it, and this holds of what is written.
pub record Writes (old new added : List ℕ) (fit : Type 0) : Type 0 where
  pub text : new ≡ old ++ added
  pub fits : fit
