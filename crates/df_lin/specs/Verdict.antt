-- What linear arithmetic says of rows.
use Rattle.std.specs.Prelude.{◌≡◌, ℕ, suc, ◌<◌, ℤ, pos, ◌+ℤ◌, true, List, [], ◌∷◌, map, length, drop, slice_get, Some}
use Rattle.df_form.specs.Log.{Combination, combination_of}
use Rattle.df_row.specs.Row.{Row, fits}
use Rattle.df_row.specs.Linear.{refutes}
use Rattle.df_row.specs.Value.{row_holds}
use Rattle.df_level.specs.Levels.{Stands, row_limit}
use Rattle.df_level.specs.Elimination.{IsElimination, AreOverflowing, AreMany}
use Rattle.df_elim.specs.Elimination.{HasFalseLevel}
use Rattle.df_back.specs.BackSubstitution.{BackSubstitution, IsStrictlyBetween, HaveWideBound}
use Rattle.df_back.specs.Ranges.{AreInside, level_at}
use Rattle.df_lin.specs.declared.multipliers.Multipliers.{Multipliers}
use Rattle.df_lin.specs.declared.chain.Chain.{Chain}
use Rattle.df_lin.specs.declared.chain.Chain.TheVariants as chains
use Rattle.df_lin.specs.declared.verdict.Verdict.{Verdict}
use Rattle.df_lin.specs.declared.verdict.Verdict.TheVariants as verdicts
use Rattle.df_lin.specs.Point.{numbers_of}

abbrev pub combinations_of : Multipliers → List Combination
combinations_of m = map combination_of m.combinations.items

-- each level has fewer rows than the limit
abbrev pub AreFew : List (List Row) → Type 0
AreFew [] = Unit
AreFew (level ∷ others) = (length level < row_limit) × AreFew others

-- All levels of the rows: none is false, and none comes to the limit of rows.
pub record HaveLevels (rows first : List Row) (variables : List ℕ) (levels : List (List Row)) : Type 0 where
  pub elimination : IsElimination rows first variables levels
  pub few : AreFew (first ∷ levels)

-- The combinations give 0 <= c for a c below 0, however many nodes there are. A level of the rows is false before any comes to
-- the limit of rows.
pub record AreRefutedBy (rows : List Row) (combinations : List Combination) : Type 0 where
  pub refuted : (count : ℕ) → refutes count rows combinations ≡ true
  pub level : HasFalseLevel rows

-- The numbers meet all rows, and are those of back substitution. The count is of nodes, and has all for which a row has a
-- coefficient.
pub record IsPoint (rows : List Row) (numbers : ℕ → ℤ) : Type 0 where
  pub first : List Row
  pub variables : List ℕ
  pub levels : List (List Row)
  pub have : HaveLevels rows first variables levels
  pub back : (count : ℕ) → AreInside count rows → BackSubstitution count first variables levels numbers
  pub meets : (count : ℕ) → AreInside count rows → (row : Row) → Stands row rows → row_holds count numbers row ≡ true

-- The node is the next variable of back substitution, and the level is the one from which it is eliminated; the later variables
-- have these numbers.
pub record IsNextBack (rows : List Row) (numbers : ℕ → ℤ) (n : ℕ) (level : List Row) : Type 0 where
  pub first : List Row
  pub variables : List ℕ
  pub levels : List (List Row)
  pub have : HaveLevels rows first variables levels
  pub place : ℕ
  pub is_variable : slice_get variables place ≡ Some n
  pub is_level : level ≡ level_at first levels place
  pub back : (count : ℕ) → AreInside count rows → BackSubstitution count (level_at first levels (suc place)) (drop (suc place) variables) (drop (suc place) levels) numbers

-- There the rows of the level allow the node only what lies strictly between the number and the next one.
pub record IsGap (rows : List Row) (n : ℕ) (k : ℤ) (numbers : ℕ → ℤ) : Type 0 where
  pub level : List Row
  pub next : IsNextBack rows numbers n level
  pub between : (count : ℕ) → AreInside count rows → IsStrictlyBetween count level numbers n k
  pub next_fits : fits (k +ℤ pos 1) ≡ true

-- There a bound that a row of the level sets the node, or a number on the way to it, is past 128 bits.
pub record IsWideAt (rows : List Row) (n : ℕ) (numbers : ℕ → ℤ) : Type 0 where
  pub level : List Row
  pub next : IsNextBack rows numbers n level
  pub wide : (count : ℕ) → AreInside count rows → HaveWideBound count level numbers n

abbrev pub TellsChain : List Row → Chain → Type 0
TellsChain rows chains.Elimination = AreOverflowing rows
TellsChain rows (chains.Substitution n point) = IsWideAt rows n (numbers_of point)

abbrev pub TellsVerdict : List Row → Verdict → Type 0
TellsVerdict rows (verdicts.Refuted multipliers) = AreRefutedBy rows (combinations_of multipliers)
TellsVerdict rows (verdicts.Point point) = IsPoint rows (numbers_of point)
TellsVerdict rows (verdicts.Between n k point) = IsGap rows n k (numbers_of point)
TellsVerdict rows (verdicts.Wide chain) = TellsChain rows chain
TellsVerdict rows (verdicts.Many count) = (count ≡ row_limit) × AreMany rows
