-- What comes next at a branch.
use Rattle.std.specs.Prelude.{◌≡◌, ℕ, ℤ, ◌+ℤ◌, pos, true, false, List, ◌++◌, map, slice_get, Some}
use Rattle.df_form.specs.declared.log.Lit.{Lit}
use Rattle.df_form.specs.Node.{Node}
use Rattle.df_form.specs.Clause.{yes, no, negation, is_among, are_literals}
use Rattle.df_form.specs.Log.{combination_of}
use Rattle.df_form.specs.Sequent.{Sequent, IsSequent}
use Rattle.df_row.specs.Row.{Row, fits}
use Rattle.df_row.specs.RowView.{IsWithin}
use Rattle.df_row.specs.Linear.{rows_of, refutes}
use Rattle.df_rules.specs.Bound.{number, at_most}
use Rattle.df_rules.specs.Derivation.{is_number}
use Rattle.df_clause.specs.declared.ground.Ground.{Ground}
use Rattle.df_clause.specs.GroundView.{IsGround, state_of}
use Rattle.df_table.specs.TableModel.{IsTableModel}
use Rattle.df_cong.specs.declared.answer.Reason.{Reason}
use Rattle.df_classes.specs.Equal.{IsContradicted}
use Rattle.df_cong.specs.Theory.{IsReason}
use Rattle.df_closure.specs.Closure.{GroundClause, after, IsClosed, IsRefuted}
use Rattle.df_closure.specs.Filled.{IsFilled}
use Rattle.df_level.specs.Levels.{Stands, row_limit}
use Rattle.df_level.specs.Elimination.{AreRefuted, IsElimination, AreMany}
use Rattle.df_back.specs.BackSubstitution.{IsBetween}
use Rattle.df_branch.specs.declared.leaf.Leaf.{Leaf}
use Rattle.df_branch.specs.declared.leaf.Leaf.TheVariants as leaves
use Rattle.df_branch.specs.TermPair.{IsTermPair, equal}
use Rattle.df_branch.specs.Evidence.{IsUnshut}
use Rattle.df_branch.specs.Next.{IsQuiet}
use Rattle.df_branch.specs.Filling.{IsOpenMember}
use Rattle.df_branch.specs.Overflow.{Overflows}

-- combinations refute the rows of the closed list
pub record IsUnsolvable (clauses : List GroundClause) (nodes : List Node) (branch : List Lit) (leaf_reasons : List ℕ) (facts : List Lit) (rows : List Row) : Type 0 where
  pub learned : List Lit
  pub closed : IsClosed clauses branch leaf_reasons learned
  pub facts_are : facts ≡ after branch learned
  pub formulas : are_literals nodes facts ≡ true
  pub rows_are : rows_of nodes facts ≡ Some rows
  pub refuted : AreRefuted rows

-- congruence contradicts the closed list, with such a line as its reason
pub record IsIncongruent (clauses : List GroundClause) (nodes : List Node) (branch : List Lit) (leaf_reasons : List ℕ) (facts : List Lit) (reason : Reason) : Type 0 where
  pub learned : List Lit
  pub closed : IsClosed clauses branch leaf_reasons learned
  pub facts_are : facts ≡ after branch learned
  pub formulas : are_literals nodes facts ≡ true
  pub is_reason : IsReason nodes facts reason

-- an undecided literal of an open clause, whatever the rows say
pub record IsOpenLeaf (clauses : List GroundClause) (nodes : List Node) (branch : List Lit) (literal : Lit) : Type 0 where
  pub learned : List Lit
  pub quiet : IsQuiet nodes clauses branch learned
  pub member : IsOpenMember clauses (after branch learned) literal

-- No clause is open, and the rows put a number strictly between a bound and the next number; no comparison that is known says more.
pub record IsBetweenLeaf (clauses : List GroundClause) (nodes : List Node) (branch : List Lit) (term : ℕ) (bound : ℤ) : Type 0 where
  pub learned : List Lit
  pub unshut : IsUnshut nodes clauses branch learned
  pub filled : IsFilled clauses (after branch learned)
  pub first : List Row
  pub variables : List ℕ
  pub levels : List (List Row)
  pub elimination : IsElimination unshut.rows first variables levels
  pub count : ℕ
  pub within : (row : Row) → Stands row first → IsWithin count row
  pub between : IsBetween count first variables levels term bound
  pub next_fits : fits (bound +ℤ pos 1) ≡ true
  pub of_number : is_number nodes term ≡ true
  pub not_true : (place m : ℕ) → slice_get nodes place ≡ Some (number bound) → slice_get nodes m ≡ Some (at_most term place) → is_among (after branch learned) (yes m) ≡ false
  pub not_false : (place m : ℕ) → slice_get nodes place ≡ Some (number bound) → slice_get nodes m ≡ Some (at_most term place) → is_among (after branch learned) (no m) ≡ false

-- No clause is open, and the equality of two different terms of the ground set, which are numbers, is undecided.
pub record IsApartLeaf (set : List Node) (clauses : List GroundClause) (nodes : List Node) (branch : List Lit) (left right : ℕ) : Type 0 where
  pub learned : List Lit
  pub unshut : IsUnshut nodes clauses branch learned
  pub filled : IsFilled clauses (after branch learned)
  pub different : left ≡ right → ⊥
  pub pair : IsTermPair set left right
  pub left_number : is_number nodes left ≡ true
  pub right_number : is_number nodes right ≡ true
  pub not_true : (n : ℕ) → slice_get nodes n ≡ Some (equal left right) → is_among (after branch learned) (yes n) ≡ false
  pub not_false : (n : ℕ) → slice_get nodes n ≡ Some (equal left right) → is_among (after branch learned) (no n) ≡ false

-- a number on the way is past 128 bits, beside a list whose closed list stands
pub record IsWideLeaf (set : List Node) (clauses : List GroundClause) (nodes : List Node) (branch : List Lit) : Type 0 where
  pub reasons : List ℕ
  pub learned : List Lit
  pub closed : IsClosed clauses branch reasons learned
  pub formulas : are_literals nodes (after branch learned) ≡ true
  pub quiet : IsContradicted nodes (map negation (after branch learned)) → ⊥
  pub overflows : Overflows set nodes (after branch learned)

-- a level of the rows comes to so many rows
pub record IsManyLeaf (clauses : List GroundClause) (nodes : List Node) (branch : List Lit) (count : ℕ) : Type 0 where
  pub is : count ≡ row_limit
  pub reasons : List ℕ
  pub learned : List Lit
  pub closed : IsClosed clauses branch reasons learned
  pub formulas : are_literals nodes (after branch learned) ≡ true
  pub quiet : IsContradicted nodes (map negation (after branch learned)) → ⊥
  pub rows : List Row
  pub rows_are : rows_of nodes (after branch learned) ≡ Some rows
  pub many : AreMany rows

-- the table is a model of the ground set of each sequent whose ground clauses stand first among these
abbrev pub IsModelOf : List Node → List GroundClause → List ℤ → Type 0
IsModelOf set clauses table = (s : Sequent) (g : Ground) (more : List GroundClause) → IsSequent s → IsGround s g → g.nodes ≡ set → g.clauses ++ more ≡ clauses → IsTableModel (state_of g) table

abbrev pub TellsLeaf : List Node → List GroundClause → List Node → List Lit → Leaf → Type 0
TellsLeaf set clauses nodes branch (leaves.Refuted numbers) = IsRefuted clauses branch numbers.items
TellsLeaf set clauses nodes branch (leaves.Unsolvable reasons facts combinations) = (rows : List Row) × IsUnsolvable clauses nodes branch reasons.items facts.items rows × ((count : ℕ) → refutes count rows (map combination_of combinations.items) ≡ true)
TellsLeaf set clauses nodes branch (leaves.Incongruent reasons facts reason) = IsIncongruent clauses nodes branch reasons.items facts.items reason
TellsLeaf set clauses nodes branch (leaves.Open literal) = IsOpenLeaf clauses nodes branch literal
TellsLeaf set clauses nodes branch (leaves.Between term bound) = IsBetweenLeaf clauses nodes branch term bound
TellsLeaf set clauses nodes branch (leaves.Apart left right) = IsApartLeaf set clauses nodes branch left right
TellsLeaf set clauses nodes branch (leaves.Modelled table) = IsModelOf set clauses table
TellsLeaf set clauses nodes branch leaves.Wide = IsWideLeaf set clauses nodes branch
TellsLeaf set clauses nodes branch (leaves.Many count) = IsManyLeaf clauses nodes branch count
