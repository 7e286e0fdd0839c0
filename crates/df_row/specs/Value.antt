-- What rows say of the numbers of nodes.
use Rattle.std.specs.Prelude.{ℕ, zero, suc, ℤ, pos, ◌+ℤ◌, ◌*ℤ◌, int_le, Bool, List}
use Rattle.std.specs.List.{list_all}
use Rattle.df_row.specs.Row.{Row}

-- f 0 + f 1 + .. below a count
abbrev pub sum_below : ℕ → (ℕ → ℤ) → ℤ
sum_below zero f = pos 0
sum_below (suc n) f = f n +ℤ sum_below n f

-- the coefficients times the numbers of the nodes below a count, and the constant
abbrev pub row_value : ℕ → (ℕ → ℤ) → Row → ℤ
row_value count numbers row = sum_below count (λ n. row.coefficient n *ℤ numbers n) +ℤ row.constant

-- 0 is at most the value of the row
abbrev pub row_holds : ℕ → (ℕ → ℤ) → Row → Bool
row_holds count numbers row = int_le (pos 0) (row_value count numbers row)

-- and of each row
abbrev pub rows_hold : ℕ → (ℕ → ℤ) → List Row → Bool
rows_hold count numbers rows = list_all (row_holds count numbers) rows
