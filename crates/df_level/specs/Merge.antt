-- What the functions on entries answer.
use Rattle.std.specs.Prelude.{◌≡◌, ℕ, ℤ, pos, true, false, ◌==◌, min, List, [], ◌∷◌, ◌++◌, Option, Some, None, Result, Ok, Err, if◌then◌else◌}
use Rattle.std.specs.Global.{Vec}
use Rattle.std.specs.Ordering.{int_eq}
use Rattle.df_row.specs.Row.{fits}
use Rattle.df_level.specs.declared.fault.RowFault.{RowFault}
use Rattle.df_level.specs.declared.fault.RowFault.TheVariants as faults
use Rattle.df_level.specs.Exact.{weighted}
use Rattle.df_level.specs.Entries.{coefficient_of, ascends}

-- the lowest node of two lists of entries
abbrev pub lowest : List (ℕ × ℤ) → List (ℕ × ℤ) → Option ℕ
lowest [] [] = None
lowest (d ∷ ds) [] = Some d.0
lowest [] (e ∷ es) = Some e.0
lowest (d ∷ ds) (e ∷ es) = Some (min d.0 e.0)

-- the coefficient of the node, where the first entry is its, and the entries after that
abbrev pub first_coefficient : ℕ → List (ℕ × ℤ) → ℤ
first_coefficient n [] = pos 0
first_coefficient n (e ∷ es) = if e.0 == n then e.1 else pos 0

abbrev pub others_after : ℕ → List (ℕ × ℤ) → List (ℕ × ℤ)
others_after n [] = []
others_after n (e ∷ es) = if e.0 == n then es else e ∷ es

-- one entry more, unless its coefficient is 0
abbrev pub with_entry : List (ℕ × ℤ) → ℕ → ℤ → List (ℕ × ℤ)
with_entry entries n c = if int_eq c (pos 0) then entries else entries ++ (n, c) ∷ []

-- entries that are the sum of others by factors
pub record IsSum (f : ℤ) (left : List (ℕ × ℤ)) (g : ℤ) (right sum : List (ℕ × ℤ)) : Type 0 where
  pub ordered : ascends 0 sum ≡ true
  pub each : (n : ℕ) → coefficient_of sum n ≡ weighted f (coefficient_of left n) g (coefficient_of right n)
  pub fitting : (n : ℕ) → fits (weighted f (coefficient_of left n) g (coefficient_of right n)) ≡ true

abbrev pub GivesSum : ℤ → List (ℕ × ℤ) → ℤ → List (ℕ × ℤ) → Result (Vec (ℕ × ℤ)) RowFault → Type 0
GivesSum f left g right (Ok sum) = IsSum f left g right sum.items
GivesSum f left g right (Err faults.Wide) = (n : ℕ) × (fits (weighted f (coefficient_of left n) g (coefficient_of right n)) ≡ false)
GivesSum f left g right (Err faults.Memory) = Unit
