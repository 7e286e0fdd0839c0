-- What the rows of a list come to, whatever clauses are open beside it.
use Rattle.std.specs.Prelude.{◌≡◌, ℕ, ℤ, true, List, map, Some}
use Rattle.df_form.specs.declared.log.Lit.{Lit}
use Rattle.df_form.specs.Node.{Node}
use Rattle.df_form.specs.Clause.{are_literals}
use Rattle.df_form.specs.Log.{combination_of}
use Rattle.df_row.specs.Row.{Row}
use Rattle.df_row.specs.RowView.{IsWithin}
use Rattle.df_row.specs.Value.{row_holds}
use Rattle.df_row.specs.Linear.{rows_of, refutes}
use Rattle.df_level.specs.Levels.{Stands, row_limit}
use Rattle.df_level.specs.Elimination.{AreMany}
use Rattle.df_closure.specs.Closure.{GroundClause, after, IsClosed, IsRefuted}
use Rattle.df_branch.specs.declared.standing.Standing.{Standing}
use Rattle.df_branch.specs.declared.standing.Standing.TheVariants as standings
use Rattle.df_branch.specs.Evidence.{AreUnrefuted}
use Rattle.df_branch.specs.Leaf.{IsUnsolvable}
use Rattle.df_branch.specs.Overflow.{RowsOverflow}

-- each row holds at the numbers
abbrev pub AllHold : (ℕ → ℤ) → List Row → Type 0
AllHold numbers rows = (count : ℕ) (row : Row) → IsWithin count row → Stands row rows → row_holds count numbers row ≡ true

-- the rows have a point
abbrev pub AreMet : List Row → Type 0
AreMet rows = (numbers : ℕ → ℤ) × AllHold numbers rows

-- The closed list stands, and its rows aren't refuted.
pub record HasStanding (clauses : List GroundClause) (nodes : List Node) (list : List Lit) : Type 0 where
  pub reasons : List ℕ
  pub learned : List Lit
  pub closed : IsClosed clauses list reasons learned
  pub formulas : are_literals nodes (after list learned) ≡ true
  pub rows : List Row
  pub rows_are : rows_of nodes (after list learned) ≡ Some rows
  pub unrefuted : AreUnrefuted rows

-- such a number comes of the closed list
pub record IsWideList (clauses : List GroundClause) (nodes : List Node) (list : List Lit) : Type 0 where
  pub reasons : List ℕ
  pub learned : List Lit
  pub closed : IsClosed clauses list reasons learned
  pub formulas : are_literals nodes (after list learned) ≡ true
  pub overflows : RowsOverflow nodes (after list learned)

-- a level of the rows of the closed list comes to so many rows
pub record IsManyList (clauses : List GroundClause) (nodes : List Node) (list : List Lit) (count : ℕ) : Type 0 where
  pub is : count ≡ row_limit
  pub reasons : List ℕ
  pub learned : List Lit
  pub closed : IsClosed clauses list reasons learned
  pub formulas : are_literals nodes (after list learned) ≡ true
  pub rows : List Row
  pub rows_are : rows_of nodes (after list learned) ≡ Some rows
  pub many : AreMany rows

abbrev pub TellsStanding : List GroundClause → List Node → List Lit → Standing → Type 0
TellsStanding clauses nodes list (standings.Stands point) = HasStanding clauses nodes list
TellsStanding clauses nodes list (standings.Refuted numbers) = IsRefuted clauses list numbers.items
TellsStanding clauses nodes list (standings.Unsolvable reasons facts combinations) = (rows : List Row) × IsUnsolvable clauses nodes list reasons.items facts.items rows × ((count : ℕ) → refutes count rows (map combination_of combinations.items) ≡ true)
TellsStanding clauses nodes list standings.Wide = IsWideList clauses nodes list
TellsStanding clauses nodes list (standings.Many count) = IsManyList clauses nodes list count
