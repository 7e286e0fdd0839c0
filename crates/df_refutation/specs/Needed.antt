-- Combinations without those that the last one does not need.
use Rattle.std.specs.Prelude.{◌≡◌, ℕ, ◌+◌, ◌≤◌, true, List, [], ◌∷◌, ◌++◌, length, slice_get, Option, Some}
use Rattle.df_form.specs.declared.log.Multiple.{Multiple}
use Rattle.df_form.specs.Log.{Combination}
use Rattle.df_row.specs.Row.{Row}
use Rattle.df_row.specs.Linear.{combined, refutes}

-- Where the old combinations refute so many rows, the new ones do too.
pub record KeepsRefuting (given : ℕ) (old new : List Combination) : Type 0 where
  pub goes : (rows : List Row) → length rows ≡ given → (count : ℕ) → refutes count rows old ≡ true → refutes count rows new ≡ true

-- each row by its combination of the given rows and of the rows before it, where there are so many nodes
abbrev pub DerivesAt : ℕ → List Row → List Combination → List Row → Type 0
DerivesAt count given [] [] = Unit
DerivesAt count given (c ∷ cs) (r ∷ rows) = (combined count given c ≡ Some r) × DerivesAt count (given ++ r ∷ []) cs rows
DerivesAt count given [] (r ∷ rows) = ⊥
DerivesAt count given (c ∷ cs) [] = ⊥

-- The same row stands at the one number here, and at the other there.
pub record StandsAt (old : List Row) (i : ℕ) (new : List Row) (j : ℕ) : Type 0 where
  pub row : Row
  pub before : slice_get old i ≡ Some row
  pub after : slice_get new j ≡ Some row

-- the new numbers of those rows that have one
abbrev pub AreNumbers : List (Option ℕ) → List Row → List Row → Type 0
AreNumbers numbers old new = (i j : ℕ) → slice_get numbers i ≡ Some (Some j) → StandsAt old i new j

-- rows of the new combinations, at their numbers
pub record HasKept (count : ℕ) (rows derived : List Row) (new : List Combination) (numbers : List (Option ℕ)) : Type 0 where
  pub kept : List Row
  pub derives : DerivesAt count rows new kept
  pub stand : AreNumbers numbers (rows ++ derived) (rows ++ kept)

-- The new combinations are some of the old ones, and the rows have these new numbers.
pub record KeepsSome (given : ℕ) (old new : List Combination) (numbers : List (Option ℕ)) : Type 0 where
  pub count : length numbers ≡ given + length old
  pub few : length new ≤ length old
  pub goes : (count : ℕ) (rows derived : List Row) → length rows ≡ given → DerivesAt count rows old derived → HasKept count rows derived new numbers

-- as many times the row that has this new number
pub record IsRenumbered (numbers : List (Option ℕ)) (old new : Multiple) : Type 0 where
  pub factor : new.factor ≡ old.factor
  pub row : slice_get numbers old.row ≡ Some (Some new.row)

abbrev pub AreRenumbered : List (Option ℕ) → List Multiple → List Multiple → Type 0
AreRenumbered numbers [] [] = Unit
AreRenumbered numbers (m ∷ ms) (k ∷ ks) = IsRenumbered numbers m k × AreRenumbered numbers ms ks
AreRenumbered numbers [] (k ∷ ks) = ⊥
AreRenumbered numbers (m ∷ ms) [] = ⊥

pub record IsRenumberedWay (numbers : List (Option ℕ)) (old new : Combination) : Type 0 where
  pub divisor : new.divisor ≡ old.divisor
  pub members : AreRenumbered numbers old.members new.members

-- each of the first rows has its own number
pub record KeepsNumbers (given : ℕ) (numbers : List (Option ℕ)) : Type 0 where
  pub count : length numbers ≡ given
  pub same : (i j : ℕ) → slice_get numbers i ≡ Some (Some j) → j ≡ i

-- with one more combination
pub record KeepsOneMore (given : ℕ) (combination : Combination) (before after : List Combination) (old new : List (Option ℕ)) : Type 0 where
  pub goes : (all : List Combination) → KeepsSome given all before old → KeepsSome given (all ++ combination ∷ []) after new
