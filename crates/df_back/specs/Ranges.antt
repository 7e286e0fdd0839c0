-- Ranges of the numbers that rows allow a node.
use Rattle.std.specs.Prelude.{◌≡◌, ℕ, zero, suc, ◌≤◌, ℤ, pos, ◌+ℤ◌, ◌*ℤ◌, ◌<ℤ◌, ◌≤ℤ◌, true, false, ◌⊎◌, List, [], ◌∷◌, ◌++◌, Option, Some, None}
use Rattle.std.specs.Int.RustNames.{unsigned_abs}
use Rattle.df_row.specs.Row.{Row, fits}
use Rattle.df_row.specs.RowView.{IsWithin}
use Rattle.df_row.specs.Value.{row_value, row_holds}
use Rattle.df_level.specs.Levels.{Stands}
use Rattle.df_back.specs.declared.range.Range.{Range}
use Rattle.df_back.specs.declared.range.Choice.{Choice}
use Rattle.df_back.specs.declared.range.Choice.TheVariants as choices
use Rattle.df_back.specs.BackSubstitution.{with_number, IsNearest, IsStrictlyBetween, IsWideSum, IsWideBound, HaveWideBound}

abbrev pub TellsValue : ℕ → (ℕ → ℤ) → Row → Option ℤ → Type 0
TellsValue count numbers row (Some v) = v ≡ row_value count numbers row
TellsValue count numbers row None = IsWideSum count numbers row

-- the last z for which the rest and so many times z are at least 0
pub record IsLast (c rest z : ℤ) : Type 0 where
  pub holds : pos 0 ≤ℤ (rest +ℤ (c *ℤ z))
  pub last : (rest +ℤ (c *ℤ z)) <ℤ pos (unsigned_abs c)

pub record IsWideLast (c rest : ℤ) : Type 0 where
  pub z : ℤ
  pub is : IsLast c rest z
  pub wide : fits z ≡ false

abbrev pub TellsLast : ℤ → ℤ → Option ℤ → Type 0
TellsLast c rest (Some z) = IsLast c rest z
TellsLast c rest None = IsWideLast c rest

-- The row allows exactly what is at least the number.
pub record IsLow (count : ℕ) (numbers : ℕ → ℤ) (n : ℕ) (row : Row) (z : ℤ) : Type 0 where
  pub from : (v : ℤ) → z ≤ℤ v → row_holds count (with_number numbers n v) row ≡ true
  pub under : (v : ℤ) → v <ℤ z → row_holds count (with_number numbers n v) row ≡ false

-- The row allows exactly what is at most the number.
pub record IsHigh (count : ℕ) (numbers : ℕ → ℤ) (n : ℕ) (row : Row) (z : ℤ) : Type 0 where
  pub to : (v : ℤ) → v ≤ℤ z → row_holds count (with_number numbers n v) row ≡ true
  pub over : (v : ℤ) → z <ℤ v → row_holds count (with_number numbers n v) row ≡ false

pub record IsRowBound (count : ℕ) (numbers : ℕ → ℤ) (n : ℕ) (row : Row) (z : ℤ) : Type 0 where
  pub low : pos 0 <ℤ row.coefficient n → IsLow count numbers n row z
  pub high : row.coefficient n <ℤ pos 0 → IsHigh count numbers n row z

abbrev pub TellsRowBound : ℕ → (ℕ → ℤ) → ℕ → Row → Option ℤ → Type 0
TellsRowBound count numbers n row (Some z) = IsRowBound count numbers n row z
TellsRowBound count numbers n row None = IsWideBound count numbers n row

-- the greatest of the lower bounds
pub record IsLowest (count : ℕ) (numbers : ℕ → ℤ) (n : ℕ) (rows : List Row) (z : ℤ) : Type 0 where
  pub row : Row
  pub stands : Stands row rows
  pub positive : pos 0 <ℤ row.coefficient n
  pub under : (v : ℤ) → v <ℤ z → row_holds count (with_number numbers n v) row ≡ false
  pub from : (r : Row) (v : ℤ) → Stands r rows → pos 0 <ℤ r.coefficient n → z ≤ℤ v → row_holds count (with_number numbers n v) r ≡ true

-- the least of the upper bounds
pub record IsHighest (count : ℕ) (numbers : ℕ → ℤ) (n : ℕ) (rows : List Row) (z : ℤ) : Type 0 where
  pub row : Row
  pub stands : Stands row rows
  pub negative : row.coefficient n <ℤ pos 0
  pub over : (v : ℤ) → z <ℤ v → row_holds count (with_number numbers n v) row ≡ false
  pub to : (r : Row) (v : ℤ) → Stands r rows → r.coefficient n <ℤ pos 0 → v ≤ℤ z → row_holds count (with_number numbers n v) r ≡ true

abbrev pub LowOf : ℕ → (ℕ → ℤ) → ℕ → List Row → Option ℤ → Type 0
LowOf count numbers n rows (Some z) = IsLowest count numbers n rows z
LowOf count numbers n rows None = (r : Row) → Stands r rows → pos 0 <ℤ r.coefficient n → ⊥

abbrev pub HighOf : ℕ → (ℕ → ℤ) → ℕ → List Row → Option ℤ → Type 0
HighOf count numbers n rows (Some z) = IsHighest count numbers n rows z
HighOf count numbers n rows None = (r : Row) → Stands r rows → r.coefficient n <ℤ pos 0 → ⊥

pub record IsRange (count : ℕ) (numbers : ℕ → ℤ) (n : ℕ) (rows : List Row) (range : Range) : Type 0 where
  pub low : LowOf count numbers n rows range.low
  pub high : HighOf count numbers n rows range.high

-- the greater of two numbers, and the lesser
pub record IsGreaterOf (a b r : ℤ) : Type 0 where
  pub first : a ≤ℤ r
  pub second : b ≤ℤ r
  pub either : (r ≡ a) ⊎ (r ≡ b)

pub record IsLesserOf (a b r : ℤ) : Type 0 where
  pub first : r ≤ℤ a
  pub second : r ≤ℤ b
  pub either : (r ≡ a) ⊎ (r ≡ b)

abbrev pub IsGreater : Option ℤ → ℤ → ℤ → Type 0
IsGreater (Some a) b r = IsGreaterOf a b r
IsGreater None b r = r ≡ b

abbrev pub IsLesser : Option ℤ → ℤ → ℤ → Type 0
IsLesser (Some a) b r = IsLesserOf a b r
IsLesser None b r = r ≡ b

-- The range of the rows before gives that of them and one more.
pub record Narrows (count : ℕ) (numbers : ℕ → ℤ) (n : ℕ) (row : Row) (before after : Range) : Type 0 where
  pub goes : (rows : List Row) → IsRange count numbers n rows before → IsRange count numbers n (rows ++ row ∷ []) after

-- a bound of a row in which the node stands is too wide
pub record IsWideAt (count : ℕ) (numbers : ℕ → ℤ) (n : ℕ) (row : Row) : Type 0 where
  pub nonzero : row.coefficient n ≡ pos 0 → ⊥
  pub wide : IsWideBound count numbers n row

abbrev pub TellsNarrowed : ℕ → (ℕ → ℤ) → ℕ → Row → Range → Option Range → Type 0
TellsNarrowed count numbers n row before (Some after) = Narrows count numbers n row before after
TellsNarrowed count numbers n row before None = IsWideAt count numbers n row

abbrev pub TellsRange : ℕ → (ℕ → ℤ) → ℕ → List Row → Option Range → Type 0
TellsRange count numbers n rows (Some range) = IsRange count numbers n rows range
TellsRange count numbers n rows None = HaveWideBound count rows numbers n

-- the values of the range
abbrev pub IsFrom : Option ℤ → ℤ → Type 0
IsFrom (Some z) v = z ≤ℤ v
IsFrom None v = Unit

abbrev pub IsUpTo : Option ℤ → ℤ → Type 0
IsUpTo (Some z) v = v ≤ℤ z
IsUpTo None v = Unit

pub record IsIn (range : Range) (v : ℤ) : Type 0 where
  pub low : IsFrom range.low v
  pub high : IsUpTo range.high v

-- the one nearest 0
pub record IsNearestIn (range : Range) (v : ℤ) : Type 0 where
  pub inside : IsIn range v
  pub nearest : (w : ℤ) → IsIn range w → unsigned_abs v ≤ unsigned_abs w

-- there is none
pub record IsEmpty (range : Range) (k : ℤ) : Type 0 where
  pub low : ℤ
  pub is_low : range.low ≡ Some low
  pub is_high : range.high ≡ Some k
  pub crossed : k <ℤ low
  pub next_fits : fits (k +ℤ pos 1) ≡ true

abbrev pub TellsNearest : Range → Choice → Type 0
TellsNearest range (choices.Value v) = IsNearestIn range v
TellsNearest range (choices.Between k) = IsEmpty range k
TellsNearest range choices.Wide = ⊥

-- the value between the rows' bounds, and that the number after the lower one fits
pub record IsBetweenBounds (count : ℕ) (rows : List Row) (numbers : ℕ → ℤ) (n : ℕ) (k : ℤ) : Type 0 where
  pub between : IsStrictlyBetween count rows numbers n k
  pub next_fits : fits (k +ℤ pos 1) ≡ true

abbrev pub TellsChoice : ℕ → List Row → (ℕ → ℤ) → ℕ → Choice → Type 0
TellsChoice count rows numbers n (choices.Value v) = IsNearest count rows numbers n v
TellsChoice count rows numbers n (choices.Between k) = IsBetweenBounds count rows numbers n k
TellsChoice count rows numbers n choices.Wide = HaveWideBound count rows numbers n

-- no row has a coefficient for a node from the count on
pub record AreInside (count : ℕ) (rows : List Row) : Type 0 where
  pub each : (row : Row) → Stands row rows → IsWithin count row

-- the level from which the variable of the number is eliminated
abbrev pub level_at : List Row → List (List Row) → ℕ → List Row
level_at first levels zero = first
level_at first [] (suc i) = first
level_at first (level ∷ levels) (suc i) = level_at level levels i
