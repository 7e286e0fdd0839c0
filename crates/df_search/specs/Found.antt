-- What a search finds.
use Rattle.std.specs.Prelude.{◌≡◌, ℕ, ℤ, Bool, true, false, List, [], ◌∷◌, map, length}
use Rattle.df_form.specs.declared.log.Lit.{Lit}
use Rattle.df_form.specs.Node.{Node}
use Rattle.df_form.specs.Log.{step_of}
use Rattle.df_form.specs.Sequent.{Sequent}
use Rattle.df_kern.specs.Accepted.{IsTaken}
use Rattle.df_clause.specs.declared.ground.Ground.{Ground}
use Rattle.df_clause.specs.GroundView.{state_of}
use Rattle.df_trig.specs.Instances.{IsInstances, AreTooMany, instance_limit}
use Rattle.df_table.specs.TableModel.{IsTableModel}
use Rattle.df_closure.specs.Closure.{GroundClause, after}
use Rattle.df_closure.specs.Full.{IsConsistent}
use Rattle.df_search.specs.declared.found.Found.{Found}
use Rattle.df_search.specs.declared.found.Found.TheVariants as found
use Rattle.df_search.specs.declared.found.What.TheVariants as whats
use Rattle.df_branch.specs.Evidence.{IsGroundIn, IsBranch, AreIncompatible, AreClosedBranches}
use Rattle.df_branch.specs.Leaf.{IsWideLeaf, IsManyLeaf}

-- a table model of the ground set of the sequent with so many rounds of instances
pub record HasModel (s : Sequent) (rounds : ℕ) (table : List ℤ) : Type 0 where
  pub set : Ground
  pub is_of : IsInstances s rounds set
  pub model : IsTableModel (state_of set) table

-- so many closed branches beside a ground set of at most so many rounds
pub record AreSpent (s : Sequent) (steps rounds : ℕ) (branches : List (List Lit)) : Type 0 where
  pub nodes : List Node
  pub clauses : List GroundClause
  pub of_sequent : IsGroundIn s rounds nodes clauses
  pub closed : AreClosedBranches s of_sequent.set.nodes nodes clauses branches
  pub count : length branches ≡ steps

-- each closed branch is incompatible with the one that is left
abbrev pub AllExclude : List (List Lit) → List Lit → Type 0
AllExclude [] branch = Unit {0}
AllExclude (closed ∷ others) branch = AreIncompatible closed branch × AllExclude others branch

-- A branch at which a search stops, and the branches that it has closed, each apart from the others and incompatible with it.
pub record IsStop (s : Sequent) (rounds : ℕ) (nodes : List Node) (clauses : List GroundClause) (closed : List (List Lit)) (branch : List Lit) : Type 0 where
  pub of_sequent : IsGroundIn s rounds nodes clauses
  pub are_closed : AreClosedBranches s of_sequent.set.nodes nodes clauses closed
  pub excluded : AllExclude closed branch
  pub is_branch : IsBranch of_sequent.set.nodes nodes clauses branch

-- There a number is past 128 bits, and the closed list holds no literal with its negation.
pub record IsTooWide (s : Sequent) (rounds : ℕ) (closed : List (List Lit)) (branch : List Lit) : Type 0 where
  pub nodes : List Node
  pub clauses : List GroundClause
  pub stop : IsStop s rounds nodes clauses closed branch
  pub wide : IsWideLeaf stop.of_sequent.set.nodes clauses nodes branch
  pub consistent : IsConsistent (after branch wide.learned)

-- There a level has so many rows, and the closed list holds no literal with its negation.
pub record HasManyRows (s : Sequent) (rounds : ℕ) (closed : List (List Lit)) (branch : List Lit) (count : ℕ) : Type 0 where
  pub nodes : List Node
  pub clauses : List GroundClause
  pub stop : IsStop s rounds nodes clauses closed branch
  pub many : IsManyLeaf clauses nodes branch count
  pub consistent : IsConsistent (after branch many.learned)

-- within so many steps and rounds
abbrev pub Finds : Sequent → ℕ → ℕ → Found → Type 0
Finds s steps rounds (found.Proved accepted log) = IsTaken s (map step_of log.items) accepted
Finds s steps rounds (found.Modelled table) = HasModel s rounds table
Finds s steps rounds (found.Spent branches) = AreSpent s steps rounds (map (λ branch. branch.items) branches.items)
Finds s steps rounds (found.Wide closed branch) = IsTooWide s rounds (map (λ other. other.items) closed.items) branch.items
Finds s steps rounds (found.Many (whats.Instances count)) = (count ≡ instance_limit) × AreTooMany s rounds
Finds s steps rounds (found.Many (whats.Rows count closed branch)) = HasManyRows s rounds (map (λ other. other.items) closed.items) branch.items count

abbrev pub is_model : Found → Bool
is_model (found.Modelled table) = true
is_model found = false
