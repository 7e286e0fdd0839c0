-- What the code's lines do to nodes and clauses.
use Rattle.std.specs.Prelude.{◌≡◌, Bool, true, false, List, [], ◌∷◌, map, slice_get, length, take, Option, None, Some, Result, Ok, Err, Vec}
use Rattle.std.specs.Option.{option_map}
use Rattle.std.specs.declared.alloc.Global.{Global}
use Rattle.std.specs.declared.alloc.AllocError.{AllocError}
use Rattle.df_form.specs.declared.log.Lit.{Lit}
use Rattle.df_form.specs.Log.{Step, Hypothesis, Goal, Connective, Schema, Propagation, Congruence, Linear, Split, Make}
use Rattle.df_form.specs.Node.{Node}
use Rattle.df_form.specs.Sequent.{Sequent}
use Rattle.df_form.specs.Clause.{yes, no}
use Rattle.df_rules.specs.Connective.{Added, connective_line}
use Rattle.df_axiom.specs.Line.{instance_line}
use Rattle.df_rules.specs.Propagation.{propagation_line}
use Rattle.df_rules.specs.CongruenceLine.{congruence_line}
use Rattle.df_row.specs.Linear.{linear_line}
use Rattle.df_rules.specs.Derivation.{State, only_clause, split_line}

abbrev pub state : List Node → List (Vec Lit Global) → State
state nodes clauses = record { nodes = nodes; clauses = map (λ clause. clause.items) clauses }

-- what a line that adds a clause adds
abbrev pub line_of : Sequent → State → Step → Option Added
line_of s state (Hypothesis i) = only_clause state.nodes (option_map (λ h. yes h ∷ []) (slice_get s.hypotheses i))
line_of s state Goal = only_clause state.nodes (Some (no s.goal ∷ []))
line_of s state (Connective n k) = connective_line state.nodes n k
line_of s state (Schema schema k terms) = instance_line s.world state.nodes schema k terms
line_of s state (Propagation numbers conclusion) = only_clause state.nodes (propagation_line state.nodes state.clauses numbers conclusion)
line_of s state (Congruence conclusion pairs) = only_clause state.nodes (congruence_line state.nodes conclusion pairs)
line_of s state (Linear conclusion combinations) = only_clause state.nodes (linear_line state.nodes conclusion combinations)
line_of s state (Split n k) = split_line state.nodes n k
line_of s state (Make node) = None

-- The new state is the one after a line; or there is none, and it is the old one; or memory was refused,
-- and the old nodes are the first of the new ones.
abbrev pub Takes : State → State → Result Bool AllocError → Option State → Type 0
Takes old new (Ok true) next = next ≡ Some new
Takes old new (Ok false) next = (next ≡ None) × (new ≡ old)
Takes old new (Err e) next = (take (length old.nodes) new.nodes ≡ old.nodes) × (new.clauses ≡ old.clauses)
