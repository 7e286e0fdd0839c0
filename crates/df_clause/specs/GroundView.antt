-- The code's ground sets, and what every ground set of a sequent has.
use Rattle.std.specs.Prelude.{◌≡◌, ℕ, true, List, [], ◌∷◌, map, take, length, slice_get, None, Some}
use Rattle.std.specs.List.{list_all}
use Rattle.df_form.specs.declared.node.Op.TheVariants as ops
use Rattle.df_form.specs.Node.{Node}
use Rattle.df_form.specs.Sorting.{IsTable}
use Rattle.df_form.specs.Clause.{Clause, yes, no, are_literals}
use Rattle.df_form.specs.Sequent.{Sequent}
use Rattle.df_form.specs.Log.{step_of}
use Rattle.df_rules.specs.Connective.{Added, connective_line}
use Rattle.df_rules.specs.Derivation.{State, begin, after_all}
use Rattle.df_clause.specs.declared.ground.Ground.{Ground}
use Rattle.df_clause.specs.GroundClause.{GroundClause}
use Rattle.df_clause.specs.GroundSet.{GroundSet}
use Rattle.df_clause.specs.Lines.{bound_by}
use Rattle.df_clause.specs.Among.{Among}

-- the code's ground set, without where it lies in memory
abbrev pub set_of : Ground → GroundSet
set_of g = record { nodes = g.nodes; clauses = g.clauses; lines = map step_of g.lines.items }

abbrev pub literals_of : GroundClause → Clause
literals_of clause = clause.literals

-- nodes and clauses as those of a log
abbrev pub state_with : List Node → List GroundClause → State
state_with nodes clauses = record { nodes = nodes; clauses = map literals_of clauses }

abbrev pub state_of : Ground → State
state_of g = state_with g.nodes g.clauses

-- a clause that is bound is one that its equality means
pub record IsBoundTo (nodes : List Node) (n : ℕ) (clause : GroundClause) : Type 0 where
  pub of : Node
  pub there : slice_get nodes n ≡ Some of
  pub equality : of.op ≡ ops.Equal
  pub number : ℕ
  pub line : connective_line nodes n number ≡ Some (record { nodes = nodes; clause = clause.literals })

-- What every ground set of a sequent has, however many instances are in it.
pub record IsGround (s : Sequent) (g : Ground) : Type 0 where
  -- the lines are those of a log, which then has these nodes and clauses
  pub run : after_all s (begin s) (map step_of g.lines.items) ≡ Some (state_of g)
  -- one for each clause
  pub long : length g.clauses ≡ length g.lines.items
  pub table : IsTable g.nodes
  -- the sequent's nodes are the first ones
  pub grows : take (length s.nodes) g.nodes ≡ s.nodes
  -- each literal is of a formula
  pub literals : list_all (λ (clause : GroundClause). are_literals g.nodes clause.literals) g.clauses ≡ true
  pub hypotheses : (i h : ℕ) → slice_get s.hypotheses i ≡ Some h → Among g.clauses (record { literals = yes h ∷ []; bound = None })
  pub goal : Among g.clauses (record { literals = no s.goal ∷ []; bound = None })
  -- whatever a connective means is there, and makes no further node
  pub connectives : (n k : ℕ) (node : Node) (added : Added) → slice_get g.nodes n ≡ Some node → connective_line g.nodes n k ≡ Some added
      → (added.nodes ≡ g.nodes) × Among g.clauses (record { literals = added.clause; bound = bound_by n node.op })
  pub bounds : (n : ℕ) (clause : GroundClause) → Among g.clauses clause → clause.bound ≡ Some n → IsBoundTo g.nodes n clause
