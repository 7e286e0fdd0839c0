-- Elimination: a level for each variable, in order of nodes.
use Rattle.std.specs.Prelude.{◌≡◌, ℕ, suc, ◌≤◌, ◌<◌, pos, List, [], ◌∷◌}
use Rattle.df_row.specs.Row.{Row}
use Rattle.df_level.specs.Levels.{Stands, HasFalse, IsFirstLevel, IsNextLevel, IsWholeFirst, IsWholeNext, FirstOverflows, FirstFills, Overflows, Fills}

-- no row has a coefficient for a node from the low one on and below the high one
abbrev pub AreFree : ℕ → ℕ → List Row → Type 0
AreFree low high rows = (row : Row) (n : ℕ) → Stands row rows → low ≤ n → n < high → row.coefficient n ≡ pos 0

-- nor for any node from the low one on
abbrev pub AreFreeFrom : ℕ → List Row → Type 0
AreFreeFrom low rows = (row : Row) (n : ℕ) → Stands row rows → low ≤ n → row.coefficient n ≡ pos 0

-- some row has a coefficient for the node
pub record HasCoefficient (n : ℕ) (rows : List Row) : Type 0 where
  pub row : Row
  pub stands : Stands row rows
  pub nonzero : row.coefficient n ≡ pos 0 → ⊥

-- The next variable: from the low node on, the first one for which some row has a coefficient.
pub record IsVariable (low n : ℕ) (rows : List Row) : Type 0 where
  pub at_least : low ≤ n
  pub free_below : AreFree low n rows
  pub has : HasCoefficient n rows

-- Each variable from a node on, in order, with the level after it; in the last level no row has a coefficient from there on.
pub data Eliminates : ℕ → List Row → List ℕ → List (List Row) → Type 0 where
  ends : {low : ℕ} {rows : List Row} → AreFreeFrom low rows → Eliminates low rows [] []
  next : {low n : ℕ} {rows after : List Row} {variables : List ℕ} {levels : List (List Row)}
      → IsVariable low n rows → IsNextLevel n rows after → Eliminates (suc n) after variables levels → Eliminates low rows (n ∷ variables) (after ∷ levels)

-- Some variables from a node on, eliminated in order, lead to a level; from there on the next ones are looked for.
pub data Reaches : ℕ → List Row → ℕ → List Row → Type 0 where
  here : {low : ℕ} {rows : List Row} → Reaches low rows low rows
  further : {low n from : ℕ} {rows after level : List Row}
      → IsVariable low n rows → IsNextLevel n rows after → Reaches (suc n) after from level → Reaches low rows from level

-- The same by whole levels: no number on the way is past 128 bits, and each level has fewer rows than the limit.
pub data Passes : ℕ → List Row → ℕ → List Row → Type 0 where
  at_once : {low : ℕ} {rows : List Row} → Passes low rows low rows
  passing : {low n from : ℕ} {rows after level : List Row}
      → IsVariable low n rows → IsWholeNext n rows after → Passes (suc n) after from level → Passes low rows from level

abbrev pub last_level : List Row → List (List Row) → List Row
last_level first [] = first
last_level first (level ∷ levels) = last_level level levels

-- a level of the rows has a row 0 <= c for a c below 0
pub record AreRefuted (rows : List Row) : Type 0 where
  pub first : List Row
  pub is_first : IsFirstLevel rows first
  pub from : ℕ
  pub level : List Row
  pub reaches : Reaches 0 first from level
  pub has_false : HasFalse level

-- All levels of the rows. None has such a row: it would stay in the last one.
pub record IsElimination (rows first : List Row) (variables : List ℕ) (levels : List (List Row)) : Type 0 where
  pub is_first : IsFirstLevel rows first
  pub eliminates : Eliminates 0 first variables levels
  pub stands : HasFalse (last_level first levels) → ⊥

-- A whole level of the rows, from which the node is to be eliminated. It has no such row, and no level before it has one: that
-- would stay.
pub record IsOpenLevel (rows : List Row) (n : ℕ) (level : List Row) : Type 0 where
  pub first : List Row
  pub is_first : IsWholeFirst rows first
  pub from : ℕ
  pub passes : Passes 0 first from level
  pub stands : HasFalse level → ⊥
  pub variable : IsVariable from n level

-- Before any other answer a number on the way to the levels of the rows is past 128 bits.
pub data AreOverflowing (rows : List Row) : Type 0 where
  at_first : FirstOverflows rows → AreOverflowing rows
  at_level : (n : ℕ) (level : List Row) → IsOpenLevel rows n level → Overflows n level → AreOverflowing rows

-- Before any other answer a level of the rows comes to the limit of rows.
pub data AreMany (rows : List Row) : Type 0 where
  many_at_first : FirstFills rows → AreMany rows
  many_at_level : (n : ℕ) (level : List Row) → IsOpenLevel rows n level → Fills n level → AreMany rows
