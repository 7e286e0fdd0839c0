-- Derivations: what each line of a log adds, and when a log derives its sequent.
use Rattle.std.specs.Prelude.{◌≡◌, ℕ, ℤ, pos, ◌+ℤ◌, Bool, true, false, not, ◌&&◌, nat_lt, List, [], ◌∷◌, ◌++◌, length, slice_get, Option, None, Some, if◌then◌else◌}
use Rattle.std.specs.Option.{option_and_then, option_map, option_map_or}
use Rattle.df_lang.specs.declared.ty.Ty.{Ty}
use Rattle.df_lang.specs.declared.ty.Ty.TheVariants as types
use Rattle.df_form.specs.declared.node.Sort.TheVariants as sorts
use Rattle.df_form.specs.declared.node.Op.{Op}
use Rattle.df_form.specs.declared.node.Op.TheVariants as ops
use Rattle.df_form.specs.Log.{Step, Hypothesis, Goal, Connective, Schema, Propagation, Congruence, Linear, Split, Make}
use Rattle.df_form.specs.Node.{Node, number_of, same_sort}
use Rattle.df_form.specs.Symbol.{type_in}
use Rattle.df_form.specs.Sorting.{is_well_sorted, sort_at}
use Rattle.df_form.specs.Sequent.{Sequent}
use Rattle.df_form.specs.World.{World, ends_at}
use Rattle.df_form.specs.Clause.{Clause, yes, no}
use Rattle.df_rules.specs.Bound.{made_at_least, made_at_most}
use Rattle.df_rules.specs.Connective.{Added, connective_line}
use Rattle.df_axiom.specs.Line.{instance_line}
use Rattle.df_rules.specs.Propagation.{propagation_line}
use Rattle.df_rules.specs.CongruenceLine.{congruence_line}
use Rattle.df_row.specs.Row.{fits}
use Rattle.df_row.specs.Linear.{linear_line}

-- the nodes and the clauses so far, by their numbers
pub record State : Type 0 where
  pub nodes : List Node
  pub clauses : List Clause

-- the sequent's nodes, and no clause
abbrev pub begin : Sequent → State
begin s = record { nodes = s.nodes; clauses = [] }

abbrev pub only_clause : List Node → Option Clause → Option Added
only_clause nodes clause = option_map (λ c. record { nodes = nodes; clause = c }) clause

-- N is at most K, or at least the next number
abbrev pub split_clause : List Node → ℕ → ℤ → Added
split_clause nodes n k =
    let below = made_at_most nodes n k in
    let above = made_at_least below.nodes (k +ℤ pos 1) n in
    record { nodes = above.nodes; clause = yes below.number ∷ yes above.number ∷ [] }

-- the node is a number
abbrev pub is_number : List Node → ℕ → Bool
is_number nodes n = nat_lt n (length nodes) && same_sort (sort_at nodes n) sorts.Number

-- `s N K`
abbrev pub split_line : List Node → ℕ → ℤ → Option Added
split_line nodes n k = if is_number nodes n && fits (k +ℤ pos 1) then Some (split_clause nodes n k) else None

-- no newtype has the number
abbrev pub is_undeclared : World → ℕ → Bool
is_undeclared world number = option_map_or (λ ends. false) (ends_at world number) true

-- the type is none of the program
abbrev pub is_unknown : World → Ty → Bool
is_unknown world (types.Newtype number) = is_undeclared world number
is_unknown world types.Int = false
is_unknown world types.Nat = false
is_unknown world types.Bool = false
is_unknown world types.Char = false

-- Free terms are the sequent's, and types are the program's: no line makes another.
abbrev pub is_foreign : World → Op → Bool
is_foreign world (ops.Free free) = true
is_foreign world (ops.Of symbol payload) = is_unknown world (type_in payload)
is_foreign world op = false

abbrev pub is_new : Option ℕ → Bool
is_new None = true
is_new (Some n) = false

-- `n OP A..`: a node that differs from all before
abbrev pub made_line : World → List Node → Node → Option (List Node)
made_line world nodes node = if not (is_foreign world node.op) && is_well_sorted nodes node && is_new (number_of nodes node) then Some (nodes ++ node ∷ []) else None

abbrev pub with_clause : State → Added → State
with_clause state added = record { nodes = added.nodes; clauses = state.clauses ++ added.clause ∷ [] }

abbrev pub adds : State → Option Added → Option State
adds state added = option_map (with_clause state) added

-- The state after a line, or none where it is no line of a derivation.
abbrev pub after : Sequent → State → Step → Option State
after s state (Hypothesis i) = adds state (only_clause state.nodes (option_map (λ h. yes h ∷ []) (slice_get s.hypotheses i)))
after s state Goal = adds state (only_clause state.nodes (Some (no s.goal ∷ [])))
after s state (Connective n k) = adds state (connective_line state.nodes n k)
after s state (Schema schema k terms) = adds state (instance_line s.world state.nodes schema k terms)
after s state (Propagation numbers conclusion) = adds state (only_clause state.nodes (propagation_line state.nodes state.clauses numbers conclusion))
after s state (Congruence conclusion pairs) = adds state (only_clause state.nodes (congruence_line state.nodes conclusion pairs))
after s state (Linear conclusion combinations) = adds state (only_clause state.nodes (linear_line state.nodes conclusion combinations))
after s state (Split n k) = adds state (split_line state.nodes n k)
after s state (Make node) = option_map (λ nodes. record { nodes = nodes; clauses = state.clauses }) (made_line s.world state.nodes node)

-- the state after lines
abbrev pub after_all : Sequent → State → List Step → Option State
after_all s state [] = Some state
after_all s state (step ∷ steps) = option_and_then (λ next. after_all s next steps) (after s state step)

-- the last clause is empty
abbrev pub ends_empty : List Clause → Bool
ends_empty [] = false
ends_empty ([] ∷ []) = true
ends_empty ((l ∷ ls) ∷ []) = false
ends_empty (clause ∷ next ∷ others) = ends_empty (next ∷ others)

-- each line of the log is one, and the last clause is empty
abbrev pub Derives : Sequent → List Step → Type 0
Derives s log = (state : State) × (after_all s (begin s) log ≡ Some state) × (ends_empty state.clauses ≡ true)

-- the row of a line's kind in the table of lines, from 1
abbrev pub kind_row : Step → ℕ
kind_row (Hypothesis i) = 1
kind_row Goal = 1
kind_row (Connective n k) = 2
kind_row (Schema schema k terms) = 5
kind_row (Propagation numbers conclusion) = 6
kind_row (Congruence conclusion pairs) = 7
kind_row (Linear conclusion combinations) = 8
kind_row (Split n k) = 9
kind_row (Make node) = 10
