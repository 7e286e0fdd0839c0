-- Back substitution: numbers for the variables that were eliminated, from the last one back.
use Rattle.std.specs.Prelude.{◌≡◌, ℕ, ◌≤◌, ◌==◌, ℤ, pos, ◌+ℤ◌, ◌-ℤ◌, ◌*ℤ◌, ◌<ℤ◌, true, false, List, [], ◌∷◌, if◌then◌else◌}
use Rattle.std.specs.Int.RustNames.{unsigned_abs}
use Rattle.df_row.specs.Row.{Row, fits}
use Rattle.df_row.specs.Value.{sum_below, row_holds}
use Rattle.df_level.specs.Levels.{Stands}

-- another number for one node
abbrev pub with_number : (ℕ → ℤ) → ℕ → ℤ → ℕ → ℤ
with_number numbers n v m = if m == n then v else numbers m

-- The rows in which the node stands allow the value, beside the numbers of the later variables.
pub record Allows (count : ℕ) (rows : List Row) (numbers : ℕ → ℤ) (n : ℕ) (v : ℤ) : Type 0 where
  pub each : (row : Row) → Stands row rows → (row.coefficient n ≡ pos 0 → ⊥) → row_holds count (with_number numbers n v) row ≡ true

-- the value nearest 0 that they allow
pub record IsNearest (count : ℕ) (rows : List Row) (numbers : ℕ → ℤ) (n : ℕ) (v : ℤ) : Type 0 where
  pub allows : Allows count rows numbers n v
  pub nearest : (w : ℤ) → Allows count rows numbers n w → unsigned_abs v ≤ unsigned_abs w

-- The numbers of the variables, from the last level back; the other nodes have 0. The rows are the level from which the
-- first variable is eliminated, and the levels are those after each variable.
pub data BackSubstitution (count : ℕ) : List Row → List ℕ → List (List Row) → (ℕ → ℤ) → Type 0 where
  ends : {rows : List Row} → BackSubstitution count rows [] [] (λ n. pos 0)
  back : {rows after : List Row} {n : ℕ} {variables : List ℕ} {levels : List (List Row)} {numbers : ℕ → ℤ} {v : ℤ}
      → BackSubstitution count after variables levels numbers → IsNearest count rows numbers n v → BackSubstitution count rows (n ∷ variables) (after ∷ levels) (with_number numbers n v)

-- a row whose lower bound for the node is above the number
pub record IsBoundAbove (count : ℕ) (rows : List Row) (numbers : ℕ → ℤ) (n : ℕ) (k : ℤ) : Type 0 where
  pub row : Row
  pub stands : Stands row rows
  pub positive : pos 0 <ℤ row.coefficient n
  pub fails : row_holds count (with_number numbers n k) row ≡ false

-- a row whose upper bound for the node is below the number
pub record IsBoundBelow (count : ℕ) (rows : List Row) (numbers : ℕ → ℤ) (n : ℕ) (k : ℤ) : Type 0 where
  pub row : Row
  pub stands : Stands row rows
  pub negative : row.coefficient n <ℤ pos 0
  pub fails : row_holds count (with_number numbers n k) row ≡ false

-- The rows allow the node only what lies strictly between the number and the next one.
pub record IsStrictlyBetween (count : ℕ) (rows : List Row) (numbers : ℕ → ℤ) (n : ℕ) (k : ℤ) : Type 0 where
  pub above : IsBoundAbove count rows numbers n k
  pub below : IsBoundBelow count rows numbers n (k +ℤ pos 1)

-- one of the variables lies so, the later ones having their numbers
pub data IsBetween (count : ℕ) : List Row → List ℕ → List (List Row) → ℕ → ℤ → Type 0 where
  here : {rows after : List Row} {n : ℕ} {variables : List ℕ} {levels : List (List Row)} {k : ℤ}
      → (numbers : ℕ → ℤ) → BackSubstitution count after variables levels numbers → IsStrictlyBetween count rows numbers n k → IsBetween count rows (n ∷ variables) (after ∷ levels) n k
  later : {rows after : List Row} {m n : ℕ} {variables : List ℕ} {levels : List (List Row)} {k : ℤ}
      → IsBetween count after variables levels n k → IsBetween count rows (m ∷ variables) (after ∷ levels) n k

-- A number on the way to the value of the row is past 128 bits: a product, or the constant with the products below a node.
pub data IsWideSum (count : ℕ) (numbers : ℕ → ℤ) (row : Row) : Type 0 where
  at_product : (m : ℕ) → fits (row.coefficient m *ℤ numbers m) ≡ false → IsWideSum count numbers row
  at_sum : (m : ℕ) → m ≤ count → fits (sum_below m (λ n. row.coefficient n *ℤ numbers n) +ℤ row.constant) ≡ false → IsWideSum count numbers row

-- the least or the greatest number that the row allows the node
pub record IsLastAllowed (count : ℕ) (numbers : ℕ → ℤ) (n : ℕ) (row : Row) (z : ℤ) : Type 0 where
  pub holds : row_holds count (with_number numbers n z) row ≡ true
  pub least : pos 0 <ℤ row.coefficient n → row_holds count (with_number numbers n (z -ℤ pos 1)) row ≡ false
  pub greatest : row.coefficient n <ℤ pos 0 → row_holds count (with_number numbers n (z +ℤ pos 1)) row ≡ false

-- that number, or one on the way to the value of the row without the node, is past 128 bits
pub data IsWideBound (count : ℕ) (numbers : ℕ → ℤ) (n : ℕ) (row : Row) : Type 0 where
  at_rest : IsWideSum count (with_number numbers n (pos 0)) row → IsWideBound count numbers n row
  at_bound : (z : ℤ) → IsLastAllowed count numbers n row z → fits z ≡ false → IsWideBound count numbers n row

-- that of a row in which the node stands
pub record HaveWideBound (count : ℕ) (rows : List Row) (numbers : ℕ → ℤ) (n : ℕ) : Type 0 where
  pub row : Row
  pub stands : Stands row rows
  pub nonzero : row.coefficient n ≡ pos 0 → ⊥
  pub wide : IsWideBound count numbers n row

-- that of one of the variables, the later ones having their numbers
pub data IsPastWidth (count : ℕ) : List Row → List ℕ → List (List Row) → Type 0 where
  here : {rows after : List Row} {n : ℕ} {variables : List ℕ} {levels : List (List Row)}
      → (numbers : ℕ → ℤ) → BackSubstitution count after variables levels numbers → HaveWideBound count rows numbers n → IsPastWidth count rows (n ∷ variables) (after ∷ levels)
  later : {rows after : List Row} {m : ℕ} {variables : List ℕ} {levels : List (List Row)}
      → IsPastWidth count after variables levels → IsPastWidth count rows (m ∷ variables) (after ∷ levels)
