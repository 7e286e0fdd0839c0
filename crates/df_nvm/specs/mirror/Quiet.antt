-- Which effects and values print nothing.
use Rattle.std.specs.Prelude.{ℕ, Bool, true, false, not, List, Option, Some, None}
use Rattle.df_nmach.specs.Step.{Effect, Goes}
use Rattle.df_nvm.specs.Quiet.{is_some}

-- whether there is a text, and it has a byte
abbrev pub prints : Option (List ℕ) → Bool
prints None = false
prints (Some text) = is_some text

-- whether an effect prints nothing
abbrev pub is_quiet : Effect → Bool
is_quiet (Goes heap f text) = not (is_some text)
is_quiet effect = true
