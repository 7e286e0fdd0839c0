-- Combinations of given rows and of the rows before each.
use Rattle.std.specs.Prelude.{◌≡◌, ℕ, ◌+◌, ◌<◌, ◌^◌, true, List, [], ◌∷◌, ◌++◌, length, slice_get, Option, Some, None}
use Rattle.df_form.specs.declared.log.Multiple.{Multiple}
use Rattle.df_form.specs.Log.{Combination}
use Rattle.df_row.specs.Row.{Row}
use Rattle.df_row.specs.Linear.{refutes}
use Rattle.df_level.specs.declared.level.Level.{Level}
use Rattle.df_level.specs.Way.{Comes, AllCome}
use Rattle.df_level.specs.Levels.{HasFalse, level_rows}

-- each row by its combination of the given rows and of the rows before it
abbrev pub Derives : List Row → List Combination → List Row → Type 0
Derives given [] [] = Unit
Derives given (c ∷ cs) (r ∷ rows) = Comes given c r × Derives (given ++ r ∷ []) cs rows
Derives given [] (r ∷ rows) = ⊥
Derives given (c ∷ cs) [] = ⊥

-- the number that is so much later, where it has 64 bits
abbrev pub IsLater : ℕ → ℕ → ℕ → Type 0
IsLater start row number = row + start < 2 ^ 64 → number ≡ row + start

-- so many times a row that stands so much later
pub record IsShifted (start : ℕ) (old new : Multiple) : Type 0 where
  pub factor : new.factor ≡ old.factor
  pub row : IsLater start old.row new.row

abbrev pub AreShifted : ℕ → List Multiple → List Multiple → Type 0
AreShifted start [] [] = Unit
AreShifted start (m ∷ ms) (k ∷ ks) = IsShifted start m k × AreShifted start ms ks
AreShifted start [] (k ∷ ks) = ⊥
AreShifted start (m ∷ ms) [] = ⊥

pub record IsShiftedWay (start : ℕ) (old new : Combination) : Type 0 where
  pub divisor : new.divisor ≡ old.divisor
  pub members : AreShifted start old.members new.members

-- rows that stand from there on in others
abbrev pub StandFrom : ℕ → List Row → List Row → Type 0
StandFrom start rows all = (i : ℕ) (r : Row) → slice_get rows i ≡ Some r → slice_get all (start + i) ≡ Some r

-- With combinations of rows that stand from the start on, a history goes on with their rows.
pub record ExtendsHistory (start : ℕ) (ways old new : List Combination) : Type 0 where
  pub goes : (given before rows derived : List Row) → Derives given old derived → StandFrom start before (given ++ derived) → AllCome before ways rows → length (given ++ derived) < 2 ^ 64 → Derives given new (derived ++ rows)

-- combinations that refute the rows, or that no level has a false row
abbrev pub TellsRefuted : List Row → List Level → Option (List Combination) → Type 0
TellsRefuted given levels (Some combinations) = (count : ℕ) → refutes count given combinations ≡ true
TellsRefuted given [] None = Unit
TellsRefuted given (level ∷ others) None = (HasFalse (level_rows level) → ⊥) × TellsRefuted given others None
