-- Levels of rows: each is the one before it with a variable eliminated.
use Rattle.std.specs.Prelude.{◌≡◌, ℕ, ◌<◌, ◌/◌, ℤ, pos, ◌<ℤ◌, true, false, ◌⊎◌, List, [], ◌∷◌, ◌++◌, map, length, slice_get, Option, Some, None, Result, Ok, Err}
use Rattle.std.specs.Int.{IsGcd}
use Rattle.std.specs.Int.RustNames.{unsigned_abs}
use Rattle.df_row.specs.Row.{Row, fits}
use Rattle.df_row.specs.RowView.{IsNarrow}
use Rattle.df_level.specs.declared.level.Level.{Level}
use Rattle.df_level.specs.declared.row.Row as declared
use Rattle.df_level.specs.declared.fault.RowFault.{RowFault}
use Rattle.df_level.specs.declared.fault.RowFault.TheVariants as faults
use Rattle.df_level.specs.declared.fault.LevelFault.{LevelFault}
use Rattle.df_level.specs.declared.fault.LevelFault.TheVariants as level_faults
use Rattle.df_level.specs.Row.{function_row, weighted_row, IsWide, IsFalse}
use Rattle.df_level.specs.Division.{IsDivided, IsDivisor, quotient_row}
use Rattle.df_form.specs.Log.{Combination, combination_of}
use Rattle.df_level.specs.declared.level.Sum.{Sum}
use Rattle.df_level.specs.Way.{multiple_row, Comes, AllCome, of_two}

-- the row is one of these
abbrev pub Stands : Row → List Row → Type 0
Stands row [] = ⊥
Stands row (r ∷ rows) = (row ≡ r) ⊎ Stands row rows

-- no two are equal
abbrev pub AreDistinct : List Row → Type 0
AreDistinct [] = Unit
AreDistinct (r ∷ rows) = (Stands r rows → ⊥) × AreDistinct rows

-- The sum of the rows by these factors cancels the node, and no lesser factors do.
pub record IsCancelling (n : ℕ) (first second : Row) (factor other_factor : ℤ) : Type 0 where
  pub divisor : ℕ
  pub positive : pos 0 <ℤ first.coefficient n
  pub negative : second.coefficient n <ℤ pos 0
  pub is_gcd : IsGcd (unsigned_abs (first.coefficient n)) (unsigned_abs (second.coefficient n)) divisor
  pub is_factor : factor ≡ pos (unsigned_abs (second.coefficient n) / divisor)
  pub is_other_factor : other_factor ≡ pos (unsigned_abs (first.coefficient n) / divisor)

-- such a sum, divided
pub record IsCancelled (n : ℕ) (first second row : Row) : Type 0 where
  pub factor : ℤ
  pub other_factor : ℤ
  pub cancelling : IsCancelling n first second factor other_factor
  pub divided : IsDivided (weighted_row factor first other_factor second) row

-- what a row is divided by is past 128 bits
pub record HasWideDivisor (row : Row) : Type 0 where
  pub divisor : ℕ
  pub is_divisor : IsDivisor row divisor
  pub wide : fits (pos divisor) ≡ false

-- A number on the way to the sum by factors is past 128 bits: one of a multiple or of the sum, or what that is divided by.
pub data IsWideBy (f : ℤ) (first : Row) (g : ℤ) (second : Row) : Type 0 where
  at_multiple : IsWide (multiple_row f first) → IsWideBy f first g second
  at_other_multiple : IsWide (multiple_row g second) → IsWideBy f first g second
  at_sum : IsWide (weighted_row f first g second) → IsWideBy f first g second
  at_divisor : HasWideDivisor (weighted_row f first g second) → IsWideBy f first g second

-- a factor, or a number on the way to the sum, is past 128 bits
pub data IsOverflow (n : ℕ) (first second : Row) : Type 0 where
  of_factor : (f g : ℤ) → IsCancelling n first second f g → fits f ≡ false → IsOverflow n first second
  of_other_factor : (f g : ℤ) → IsCancelling n first second f g → fits g ≡ false → IsOverflow n first second
  of_sum : (f g : ℤ) → IsCancelling n first second f g → IsWideBy f first g second → IsOverflow n first second

-- one of the first rows, which has no coefficient for the node, or a sum of one of them and one of the second
pub data IsMade (n : ℕ) (firsts seconds : List Row) (row : Row) : Type 0 where
  kept : Stands row firsts → row.coefficient n ≡ pos 0 → IsMade n firsts seconds row
  cancelled : (first second : Row) → Stands first firsts → Stands second seconds → IsCancelled n first second row → IsMade n firsts seconds row

-- the first level: each row divided, equal ones once
pub record IsFirstLevel (rows after : List Row) : Type 0 where
  pub each : (r : Row) → Stands r after → (row : Row) × Stands row rows × IsDivided row r
  pub all : (r row : Row) → Stands row rows → IsDivided row r → Stands r after
  pub once : AreDistinct after

-- The level after another one, from which the node is eliminated: the rows without it, and all sums of two rows that
-- cancel it by least factors, divided; equal ones once.
pub record IsNextLevel (n : ℕ) (before after : List Row) : Type 0 where
  pub each : (row : Row) → Stands row after → IsMade n before before row
  pub all : (row : Row) → IsMade n before before row → Stands row after
  pub once : AreDistinct after

-- one of the rows is false
pub record HasFalse (rows : List Row) : Type 0 where
  pub row : Row
  pub stands : Stands row rows
  pub is_false : IsFalse row

-- where one of them stands, or that there is none
abbrev pub TellsFalse : List Row → Option ℕ → Type 0
TellsFalse rows (Some i) = (row : Row) × (slice_get rows i ≡ Some row) × IsFalse row
TellsFalse rows None = HasFalse rows → ⊥

-- A level is given up as soon as it has so many rows.
abbrev pub row_limit : ℕ
row_limit = 50000

-- what none of the rows is divided by is past 128 bits
abbrev pub DivisorsFit : List Row → Type 0
DivisorsFit rows = (row : Row) → Stands row rows → HasWideDivisor row → ⊥

-- nor is a number on the way to a sum of one of the first rows and one of the second
abbrev pub SumsFit : ℕ → List Row → List Row → Type 0
SumsFit n firsts seconds = (first second : Row) → Stands first firsts → Stands second seconds → IsOverflow n first second → ⊥

-- the whole first level: no number is past 128 bits, and its rows are fewer than the limit
pub record IsWholeFirst (rows after : List Row) : Type 0 where
  pub is_first : IsFirstLevel rows after
  pub fit : DivisorsFit rows
  pub few : length after < row_limit

-- the whole level after another one
pub record IsWholeNext (n : ℕ) (before after : List Row) : Type 0 where
  pub is_next : IsNextLevel n before after
  pub fit : SumsFit n before before
  pub few : length after < row_limit

-- The first level grows row by row, in order. At one of the rows what that is divided by is past 128 bits, where so far all
-- went well.
pub record FirstOverflows (rows : List Row) : Type 0 where
  pub front : List Row
  pub row : Row
  pub rest : List Row
  pub rows_are : rows ≡ front ++ row ∷ rest
  pub level : List Row
  pub so_far : IsWholeFirst front level
  pub wide : HasWideDivisor row

-- From some of the rows it has the limit of rows, and no number so far is past 128 bits.
pub record FirstFills (rows : List Row) : Type 0 where
  pub front : List Row
  pub rest : List Row
  pub rows_are : rows ≡ front ++ rest
  pub level : List Row
  pub is_first : IsFirstLevel front level
  pub fit : DivisorsFit front
  pub full : length level ≡ row_limit

-- The level after another one grows likewise: its rows are gone over in order, and with each one all of them in order. So far
-- these are the first rows with all, and one more row with some of them.
pub record IsLevelUpTo (n : ℕ) (rows firsts : List Row) (first : Row) (seconds level : List Row) : Type 0 where
  pub each : (row : Row) → Stands row level → IsMade n firsts rows row ⊎ IsMade n (first ∷ []) seconds row
  pub all : (row : Row) → IsMade n firsts rows row ⊎ IsMade n (first ∷ []) seconds row → Stands row level
  pub once : AreDistinct level
  pub fit : SumsFit n firsts rows
  pub first_fits : SumsFit n (first ∷ []) seconds

-- At two of the rows a number on the way to their sum is past 128 bits, where so far all went well.
pub record Overflows (n : ℕ) (rows : List Row) : Type 0 where
  pub firsts : List Row
  pub first : Row
  pub others : List Row
  pub first_at : rows ≡ firsts ++ first ∷ others
  pub seconds : List Row
  pub second : Row
  pub rest : List Row
  pub second_at : rows ≡ seconds ++ second ∷ rest
  pub level : List Row
  pub so_far : IsLevelUpTo n rows firsts first seconds level
  pub few : length level < row_limit
  pub overflow : IsOverflow n first second

-- From some of the rows it has the limit of rows, and no number so far is past 128 bits.
pub record Fills (n : ℕ) (rows : List Row) : Type 0 where
  pub firsts : List Row
  pub first : Row
  pub others : List Row
  pub first_at : rows ≡ firsts ++ first ∷ others
  pub seconds : List Row
  pub rest : List Row
  pub seconds_are : rows ≡ seconds ++ rest
  pub level : List Row
  pub so_far : IsLevelUpTo n rows firsts first seconds level
  pub full : length level ≡ row_limit

abbrev pub rows_of : List declared.Row → List Row
rows_of rows = map function_row rows

-- the rows of a level
abbrev pub level_rows : Level → List Row
level_rows level = rows_of level.rows.keys

-- how each row comes of others
abbrev pub level_ways : Level → List Combination
level_ways level = map combination_of level.ways.items

-- each row of the level comes of the rows by its combination
abbrev pub AreWays : List Row → Level → Type 0
AreWays before level = AllCome before (level_ways level) (level_rows level)

-- The rows of each level come of those of the level before, and those of the first one of the given rows.
abbrev pub AreChained : List Row → List Level → Type 0
AreChained before [] = Unit
AreChained before (level ∷ others) = AreWays before level × AreChained (level_rows level) others

abbrev pub KeepsWays : List Row → Level → Level → Type 0
KeepsWays before old new = AreWays before old → AreWays before new

-- the first level, or what comes first: that a divisor is too wide, or that there are too many rows; want of memory says nothing
abbrev pub GivesFirst : List Row → Result Level LevelFault → Type 0
GivesFirst rows (Ok level) = IsWholeFirst rows (level_rows level)
GivesFirst rows (Err level_faults.Wide) = FirstOverflows rows
GivesFirst rows (Err level_faults.Many) = FirstFills rows
GivesFirst rows (Err level_faults.Memory) = Unit

-- the level after, or what comes first: that a number of it is too wide, or that there are too many rows; want of memory says
-- nothing
abbrev pub GivesLevel : ℕ → List Row → Result Level LevelFault → Type 0
GivesLevel n before (Ok after) = IsWholeNext n before (level_rows after)
GivesLevel n before (Err level_faults.Wide) = Overflows n before
GivesLevel n before (Err level_faults.Many) = Fills n before
GivesLevel n before (Err level_faults.Memory) = Unit

-- a row's fault, as a level's
abbrev pub level_fault : RowFault → LevelFault
level_fault faults.Wide = level_faults.Wide
level_fault faults.Memory = level_faults.Memory

-- such a sum with its factors, which is a combination of the two rows
pub record IsSumOf (n : ℕ) (first second : Row) (sum : Sum) : Type 0 where
  pub cancelled : IsCancelled n first second (function_row sum.row)
  pub comes : (rows : List Row) (i j : ℕ) → slice_get rows i ≡ Some first → slice_get rows j ≡ Some second → Comes rows (of_two sum.divisor (record { factor = sum.factor; row = i }) (record { factor = sum.other_factor; row = j })) (function_row sum.row)
  pub fits_all : IsOverflow n first second → ⊥

-- the sum of two rows by factors, divided
pub record IsSumBy (f : ℤ) (first : Row) (g : ℤ) (second : Row) (sum : Sum) : Type 0 where
  pub is_factor : sum.factor ≡ f
  pub is_other_factor : sum.other_factor ≡ g
  pub small : IsNarrow (multiple_row f first)
  pub other_small : IsNarrow (multiple_row g second)
  pub sum_small : IsNarrow (weighted_row f first g second)
  pub content : ℕ
  pub is_divisor : IsDivisor (weighted_row f first g second) content
  pub divisor : sum.divisor ≡ pos content
  pub divisor_fits : fits (pos content) ≡ true
  pub is : function_row sum.row ≡ quotient_row content (weighted_row f first g second)

abbrev pub GivesSumBy : ℤ → Row → ℤ → Row → Result Sum RowFault → Type 0
GivesSumBy f first g second (Ok sum) = IsSumBy f first g second sum
GivesSumBy f first g second (Err faults.Wide) = IsWideBy f first g second
GivesSumBy f first g second (Err faults.Memory) = Unit

abbrev pub GivesCancelled : ℕ → Row → Row → Result Sum RowFault → Type 0
GivesCancelled n first second (Ok sum) = IsSumOf n first second sum
GivesCancelled n first second (Err faults.Wide) = IsOverflow n first second
GivesCancelled n first second (Err faults.Memory) = Unit

-- the multiplier, or that it is past 128 bits
abbrev pub GivesFactor : ℕ → Result ℤ RowFault → Type 0
GivesFactor k (Ok z) = (z ≡ pos k) × (fits (pos k) ≡ true)
GivesFactor k (Err faults.Wide) = fits (pos k) ≡ false
GivesFactor k (Err faults.Memory) = ⊥

-- rows with one more, unless it is among them
pub record AddsRow (row : Row) (before after : List Row) : Type 0 where
  pub each : (r : Row) → Stands r after → Stands r before ⊎ (r ≡ row)
  pub stays : (r : Row) → Stands r before → Stands r after
  pub added : Stands row after
  pub once : AreDistinct before → AreDistinct after

-- such rows, or the limit of them
abbrev pub GivesAdded : Row → List Row → List Row → Result Unit LevelFault → Type 0
GivesAdded row before after (Ok done) = AddsRow row before after × (length after < row_limit)
GivesAdded row before after (Err level_faults.Wide) = ⊥
GivesAdded row before after (Err level_faults.Many) = AddsRow row before after × (length after ≡ row_limit)
GivesAdded row before after (Err level_faults.Memory) = Unit

-- a level with one more row, and its combination
abbrev pub AddsWay : Combination → Row → Level → Level → Type 0
AddsWay way row old new = (before : List Row) → Comes before way row → KeepsWays before old new

abbrev pub KeepsOne : Row → ℕ → Level → Level → Type 0
KeepsOne row i old new = (before : List Row) → slice_get before i ≡ Some row → KeepsWays before old new

abbrev pub KeepsTwo : Row → ℕ → Row → ℕ → Level → Level → Type 0
KeepsTwo first i second j old new = (before : List Row) → slice_get before i ≡ Some first → slice_get before j ≡ Some second → KeepsWays before old new

abbrev pub KeepsAll : List Row → Row → ℕ → Level → Level → Type 0
KeepsAll before row i old new = slice_get before i ≡ Some row → KeepsWays before old new

-- rows with a quotient
pub record AddsDivided (row : Row) (before after : List Row) : Type 0 where
  pub quotient : Row
  pub divided : IsDivided row quotient
  pub fit : HasWideDivisor row → ⊥
  pub adds : AddsRow quotient before after

abbrev pub GivesDivided : Row → List Row → List Row → Result Unit LevelFault → Type 0
GivesDivided row before after (Ok done) = AddsDivided row before after × (length after < row_limit)
GivesDivided row before after (Err level_faults.Wide) = HasWideDivisor row
GivesDivided row before after (Err level_faults.Many) = AddsDivided row before after × (length after ≡ row_limit)
GivesDivided row before after (Err level_faults.Memory) = Unit

-- rows with the sums of one row and others that cancel the node
pub record AddsSums (n : ℕ) (first : Row) (seconds before after : List Row) : Type 0 where
  pub each : (r : Row) → Stands r after → Stands r before ⊎ ((second : Row) × Stands second seconds × IsCancelled n first second r)
  pub stays : (r : Row) → Stands r before → Stands r after
  pub added : (r second : Row) → Stands second seconds → IsCancelled n first second r → Stands r after
  pub once : AreDistinct before → AreDistinct after
  pub fit : SumsFit n (first ∷ []) seconds

-- after the sums with some of the others, the one with the next is past 128 bits on its way
pub record OverflowsWith (n : ℕ) (first : Row) (seconds before : List Row) : Type 0 where
  pub front : List Row
  pub second : Row
  pub rest : List Row
  pub seconds_are : seconds ≡ front ++ second ∷ rest
  pub level : List Row
  pub sums : AddsSums n first front before level
  pub few : length level < row_limit
  pub overflow : IsOverflow n first second

-- with the sums of the row and some of the others there is the limit of rows
pub record FillsWith (n : ℕ) (first : Row) (seconds before : List Row) : Type 0 where
  pub front : List Row
  pub rest : List Row
  pub seconds_are : seconds ≡ front ++ rest
  pub level : List Row
  pub sums : AddsSums n first front before level
  pub full : length level ≡ row_limit

abbrev pub GivesSums : ℕ → Row → List Row → List Row → List Row → Result Unit LevelFault → Type 0
GivesSums n first seconds before after (Ok done) = AddsSums n first seconds before after × (length after < row_limit)
GivesSums n first seconds before after (Err level_faults.Wide) = OverflowsWith n first seconds before
GivesSums n first seconds before after (Err level_faults.Many) = FillsWith n first seconds before
GivesSums n first seconds before after (Err level_faults.Memory) = Unit

-- rows with the sum of two rows, where it cancels the node
pub record AddsSum (n : ℕ) (first second : Row) (before after : List Row) : Type 0 where
  pub goes : (seconds old : List Row) → AddsSums n first seconds old before → AddsSums n first (seconds ++ second ∷ []) old after

abbrev pub GivesOneSum : ℕ → Row → Row → List Row → List Row → Result Unit LevelFault → Type 0
GivesOneSum n first second before after (Ok done) = AddsSum n first second before after × (length after < row_limit)
GivesOneSum n first second before after (Err level_faults.Wide) = IsOverflow n first second
GivesOneSum n first second before after (Err level_faults.Many) = AddsSum n first second before after × (length after ≡ row_limit)
GivesOneSum n first second before after (Err level_faults.Memory) = Unit

-- the level so far, from the first of the rows
pub record IsSoFar (n : ℕ) (firsts seconds level : List Row) : Type 0 where
  pub each : (row : Row) → Stands row level → IsMade n firsts seconds row
  pub all : (row : Row) → IsMade n firsts seconds row → Stands row level
  pub once : AreDistinct level
  pub fit : SumsFit n firsts seconds

-- and from one more of them
pub record ExtendsLevel (n : ℕ) (first : Row) (seconds before after : List Row) : Type 0 where
  pub goes : (firsts : List Row) → IsSoFar n firsts seconds before → IsSoFar n (firsts ++ first ∷ []) seconds after

-- the row, or sums with it, come to the limit of rows
pub data FillsMade (n : ℕ) (first : Row) (seconds before : List Row) : Type 0 where
  by_itself : (level : List Row) → first.coefficient n ≡ pos 0 → AddsRow first before level → length level ≡ row_limit → FillsMade n first seconds before
  by_sums : pos 0 <ℤ first.coefficient n → FillsWith n first seconds before → FillsMade n first seconds before

abbrev pub GivesMade : ℕ → Row → List Row → List Row → List Row → Result Unit LevelFault → Type 0
GivesMade n first seconds before after (Ok done) = ExtendsLevel n first seconds before after × (length after < row_limit)
GivesMade n first seconds before after (Err level_faults.Wide) = OverflowsWith n first seconds before
GivesMade n first seconds before after (Err level_faults.Many) = FillsMade n first seconds before
GivesMade n first seconds before after (Err level_faults.Memory) = Unit
