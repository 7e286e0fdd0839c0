-- Variables eliminated from rows, level after level.
use Rattle.std.specs.Prelude.{◌≡◌, ℕ, suc, ◌<◌, ◌⊎◌, List, [], ◌∷◌, ◌++◌, map, length, min, Option, Some, None, Result, Ok, Err}
use Rattle.df_row.specs.Row.{Row}
use Rattle.df_level.specs.declared.level.Level.{Level}
use Rattle.df_level.specs.declared.fault.LevelFault.{LevelFault}
use Rattle.df_level.specs.declared.fault.LevelFault.TheVariants as faults
use Rattle.df_level.specs.Levels.{Stands, HasFalse, row_limit, IsWholeFirst, IsWholeNext, Overflows, Fills, level_rows, AreWays, AreChained}
use Rattle.df_level.specs.Elimination.{AreFreeFrom, IsVariable, Passes, last_level, AreRefuted, IsElimination, AreOverflowing, AreMany}
use Rattle.df_elim.specs.declared.elimination.Levels.{Levels}
use Rattle.df_elim.specs.declared.elimination.Elimination.{Elimination}
use Rattle.df_elim.specs.declared.elimination.Elimination.TheVariants as answers
use Rattle.df_elim.specs.declared.elimination.Next.{Next}
use Rattle.df_elim.specs.declared.elimination.Next.TheVariants as nexts

-- each of the rows is one of the others
abbrev pub AreAmong : List Row → List Row → Type 0
AreAmong rows more = (r : Row) → Stands r rows → Stands r more

-- one of the levels has a row 0 <= c for a c below 0
abbrev pub HaveFalse : List Level → Type 0
HaveFalse [] = ⊥
HaveFalse (level ∷ others) = HasFalse (level_rows level) ⊎ HaveFalse others

-- each level has fewer rows than the limit
abbrev pub AreFew : List Level → Type 0
AreFew [] = Unit
AreFew (level ∷ others) = (length (level_rows level) < row_limit) × AreFew others

-- A whole level of the rows has such a row, and neither it nor a level before it comes to the limit of rows.
pub record HasFalseLevel (rows : List Row) : Type 0 where
  pub first : List Row
  pub is_first : IsWholeFirst rows first
  pub from : ℕ
  pub level : List Row
  pub passes : Passes 0 first from level
  pub has_false : HasFalse level

-- levels that refute the rows
pub record IsRefutation (rows : List Row) (levels : List Level) : Type 0 where
  pub refuted : AreRefuted rows
  pub whole : HasFalseLevel rows
  pub chained : AreChained rows levels
  pub has_false : HaveFalse levels
  pub few : AreFew levels

-- all levels of the rows
pub record IsWhole (rows : List Row) (levels : Levels) : Type 0 where
  pub elimination : IsElimination rows (level_rows levels.first) levels.variables.items (map level_rows levels.others.items)
  pub chained : AreChained rows (levels.first ∷ levels.others.items)
  pub few : AreFew (levels.first ∷ levels.others.items)

abbrev pub TellsElimination : List Row → Elimination → Type 0
TellsElimination rows (answers.Refuted levels) = IsRefutation rows levels.items
TellsElimination rows (answers.Open levels) = IsWhole rows levels
TellsElimination rows answers.Wide = AreOverflowing rows
TellsElimination rows (answers.Many count) = (count ≡ row_limit) × AreMany rows

-- such an answer, or that a number on the way is too wide, or that there are too many rows; want of memory says nothing
abbrev pub GivesElimination : List Row → Result Elimination LevelFault → Type 0
GivesElimination rows (Ok answer) = TellsElimination rows answer
GivesElimination rows (Err faults.Wide) = AreOverflowing rows
GivesElimination rows (Err faults.Many) = AreMany rows
GivesElimination rows (Err faults.Memory) = Unit

-- the first node after the one that was eliminated last
abbrev pub low_after : Option ℕ → ℕ
low_after None = 0
low_after (Some last) = suc last

-- the next variable from a node on, or that there is none
abbrev pub TellsVariable : ℕ → List Row → Option ℕ → Type 0
TellsVariable low rows (Some n) = IsVariable low n rows
TellsVariable low rows None = AreFreeFrom low rows

-- the lesser of two nodes, where there are two
abbrev pub lesser_of : Option ℕ → Option ℕ → Option ℕ
lesser_of (Some n) (Some m) = Some (min n m)
lesser_of (Some n) None = Some n
lesser_of None other = other

-- what comes after a level
abbrev pub TellsNext : ℕ → List Row → Next → Type 0
TellsNext low rows nexts.Refuted = HasFalse rows
TellsNext low rows (nexts.Variable n) = (HasFalse rows → ⊥) × IsVariable low n rows
TellsNext low rows nexts.End = (HasFalse rows → ⊥) × AreFreeFrom low rows

-- the rows of the last level
abbrev pub last_rows : Levels → List Row
last_rows levels = last_level (level_rows levels.first) (map level_rows levels.others.items)

-- levels with one more
pub record Grows (n : ℕ) (old new : Levels) : Type 0 where
  pub level : Level
  pub is_next : IsWholeNext n (last_rows old) (level_rows level)
  pub ways : AreWays (last_rows old) level
  pub first : new.first ≡ old.first
  pub variables : new.variables.items ≡ old.variables.items ++ n ∷ []
  pub others : new.others.items ≡ old.others.items ++ level ∷ []

-- one more level, or that a number of it is too wide, or that it has too many rows; want of memory says nothing
abbrev pub GivesMore : ℕ → Levels → Levels → Result Unit LevelFault → Type 0
GivesMore n old new (Ok done) = Grows n old new
GivesMore n old new (Err faults.Wide) = Overflows n (last_rows old)
GivesMore n old new (Err faults.Many) = Fills n (last_rows old)
GivesMore n old new (Err faults.Memory) = Unit
