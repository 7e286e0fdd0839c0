-- What back substitution answers.
use Rattle.std.specs.Prelude.{◌≡◌, ℕ, ◌<◌, ◌==◌, ℤ, pos, negsuc, ◌+ℤ◌, ◌-ℤ◌, true, List, length, if◌then◌else◌}
use Rattle.std.specs.List.{slice_index_or}
use Rattle.df_row.specs.Row.{Row, fits}
use Rattle.df_row.specs.Value.{row_holds}
use Rattle.df_level.specs.Levels.{Stands}
use Rattle.df_back.specs.declared.answer.Back.{Back}
use Rattle.df_back.specs.declared.answer.Back.TheVariants as answers
use Rattle.df_back.specs.BackSubstitution.{BackSubstitution, IsBetween, IsPastWidth}

-- the numbers by node, 0 past the end
abbrev pub numbers_of : List ℤ → ℕ → ℤ
numbers_of numbers n = slice_index_or numbers n (pos 0)

-- the numbers, which all rows allow
pub record IsPoint (count : ℕ) (rows : List Row) (variables : List ℕ) (levels : List (List Row)) (numbers : List ℤ) : Type 0 where
  pub size : length numbers ≡ count
  pub is : BackSubstitution count rows variables levels (numbers_of numbers)
  pub holds : (row : Row) → Stands row rows → row_holds count (numbers_of numbers) row ≡ true

-- the node is at most the number
abbrev pub at_most_row : ℕ → ℤ → Row
at_most_row n k = record { coefficient = λ m. if m == n then negsuc 0 else pos 0; constant = k }

-- the node is at least the number
abbrev pub at_least_row : ℕ → ℤ → Row
at_least_row n k = record { coefficient = λ m. if m == n then pos 1 else pos 0; constant = pos 0 -ℤ k }

-- A variable lies between the bound and the next number, and no row says that it is at most the one or at least the other.
pub record IsGap (count : ℕ) (rows : List Row) (variables : List ℕ) (levels : List (List Row)) (n : ℕ) (k : ℤ) : Type 0 where
  pub between : IsBetween count rows variables levels n k
  pub inside : n < count
  pub next_fits : fits (k +ℤ pos 1) ≡ true
  pub new_at_most : Stands (at_most_row n k) rows → ⊥
  pub new_at_least : Stands (at_least_row n (k +ℤ pos 1)) rows → ⊥

abbrev pub TellsBack : ℕ → List Row → List ℕ → List (List Row) → Back → Type 0
TellsBack count rows variables levels (answers.Point numbers) = IsPoint count rows variables levels numbers.items
TellsBack count rows variables levels (answers.Between n k) = IsGap count rows variables levels n k
TellsBack count rows variables levels answers.Wide = IsPastWidth count rows variables levels
