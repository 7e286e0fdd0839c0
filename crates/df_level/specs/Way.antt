-- How rows come of others.
use Rattle.std.specs.Prelude.{◌≡◌, ℕ, ℤ, pos, ◌*ℤ◌, List, [], ◌∷◌, Some}
use Rattle.df_form.specs.declared.log.Multiple.{Multiple}
use Rattle.df_form.specs.Log.{Combination}
use Rattle.df_row.specs.Row.{Row}
use Rattle.df_row.specs.Linear.{combined}

-- so many times the row
abbrev pub multiple_row : ℤ → Row → Row
multiple_row f row = record { coefficient = λ n. f *ℤ row.coefficient n; constant = f *ℤ row.constant }

-- The combination of the rows is the row, however many nodes there are.
abbrev pub Comes : List Row → Combination → Row → Type 0
Comes rows c row = (count : ℕ) → combined count rows c ≡ Some row

-- each row by its combination
abbrev pub AllCome : List Row → List Combination → List Row → Type 0
AllCome before [] [] = Unit
AllCome before (c ∷ cs) (r ∷ rows) = Comes before c r × AllCome before cs rows
AllCome before [] (r ∷ rows) = ⊥
AllCome before (c ∷ cs) [] = ⊥

-- one row, divided
abbrev pub of_one : ℤ → ℕ → Combination
of_one divisor row = record { divisor = divisor; members = record { factor = pos 1; row = row } ∷ [] }

-- the sum of two multiples of rows, divided
abbrev pub of_two : ℤ → Multiple → Multiple → Combination
of_two divisor first second = record { divisor = divisor; members = first ∷ second ∷ [] }
