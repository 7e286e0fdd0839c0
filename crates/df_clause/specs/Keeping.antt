-- What the steps towards a ground set answer.
use Rattle.std.specs.Prelude.{◌≡◌, ℕ, Bool, List, [], ◌∷◌, ◌++◌, map, take, Option, Result, Ok, Err, if◌then◌else◌}
use Rattle.std.specs.declared.alloc.AllocError.{AllocError}
use Rattle.df_form.specs.Clause.{Clause}
use Rattle.df_form.specs.Log.{Step, step_of}
use Rattle.df_form.specs.Sequent.{Sequent}
use Rattle.df_clause.specs.declared.ground.Ground.{Ground}
use Rattle.df_clause.specs.GroundClause.{GroundClause}
use Rattle.df_clause.specs.GroundSet.{GroundSet, with_added, with_line}
use Rattle.df_clause.specs.GroundView.{set_of}

abbrev pub clause_of : Option ℕ → Clause → GroundClause
clause_of bound clause = record { literals = clause; bound = bound }

-- a further line, where it has a new clause
abbrev pub with_line_if : Bool → List Step → Step → List Step
with_line_if is_new lines line = if is_new then lines ++ line ∷ [] else lines

-- the set with its first nodes alone
abbrev pub cut_to : ℕ → Ground → GroundSet
cut_to before g = record { nodes = take before g.nodes; clauses = g.clauses; lines = map step_of g.lines.items }

-- The later nodes were made for the clause of a line. It is added, unless the same one is there; where it is not, these
-- nodes go.
abbrev pub Keeps : ℕ → Step → Option ℕ → Clause → Ground → Ground → Result (Unit {0}) AllocError → Type 0
Keeps before line bound clause old new (Ok done) = set_of new ≡ with_added (cut_to before old) line bound (record { nodes = old.nodes; clause = clause })
Keeps before line bound clause old new (Err e) = set_of new ≡ cut_to before old

-- whatever sequent it is of, the set has the clause of the line; after an error it is as before
abbrev pub AddsLine : Step → Ground → Ground → Result (Unit {0}) AllocError → Type 0
AddsLine line old new (Ok done) = (s : Sequent) → set_of new ≡ with_line s (set_of old) line
AddsLine line old new (Err e) = set_of new ≡ set_of old
