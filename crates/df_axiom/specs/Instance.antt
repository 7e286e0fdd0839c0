-- Instances of templates.
use Rattle.std.specs.Prelude.{ℕ, Bool, true, false, ◌==◌, List, [], ◌∷◌, ◌++◌, map, length, slice_get, slice_index_or, Option, None, Some, if◌then◌else◌}
use Rattle.std.specs.Option.{option_and_then, option_map_or}
use Rattle.std.specs.List.{list_all}
use Rattle.df_form.specs.declared.log.Lit.{Lit}
use Rattle.df_form.specs.declared.log.Pair.{Pair}
use Rattle.df_form.specs.declared.node.Op.{Op}
use Rattle.df_form.specs.declared.node.Op.TheVariants as ops
use Rattle.df_form.specs.Node.{Node, same_op}
use Rattle.df_form.specs.Sorting.{is_well_sorted}
use Rattle.df_form.specs.Made.{Made, made}
use Rattle.df_form.specs.Clause.{Clause, are_literals}
use Rattle.df_axiom.specs.declared.templates.Piece.{Piece}
use Rattle.df_axiom.specs.declared.templates.Source.{Source}
use Rattle.df_axiom.specs.declared.templates.Source.TheVariants as sources
use Rattle.df_axiom.specs.declared.templates.Test.{Test}
use Rattle.df_axiom.specs.declared.templates.Test.TheVariants as tests
use Rattle.df_axiom.specs.Template.{Template}

-- the node at a place
abbrev pub place_at : List ℕ → ℕ → ℕ
place_at places place = slice_index_or places place 0

-- ---- what is found

abbrev pub part_at : List Node → ℕ → ℕ → Option ℕ
part_at nodes n part = option_and_then (λ (node : Node). slice_get node.parts part) (slice_get nodes n)

-- a named term, or a part of what was found
abbrev pub source_at : List Node → List ℕ → List ℕ → Source → Option ℕ
source_at nodes terms places (sources.Named term) = slice_get terms term
source_at nodes terms places (sources.Part place part) = option_and_then (λ n. part_at nodes n part) (slice_get places place)

abbrev pub is_literal : Op → Bool
is_literal (ops.Number k) = true
is_literal op = false

abbrev pub suits : Test → Op → Bool
suits tests.Any op = true
suits tests.Literal op = is_literal op
suits (tests.Of wanted) op = same_op wanted op

-- a node stands there, as the test wants it
abbrev pub passes : List Node → Test → ℕ → Bool
passes nodes test n = option_map_or (λ (node : Node). suits test node.op) (slice_get nodes n) false

-- the nodes of pieces, behind those of the places before
abbrev pub found_from : List Node → List ℕ → List ℕ → List Piece → Option (List ℕ)
found_from nodes terms places [] = Some places
found_from nodes terms places (piece ∷ others) =
    option_and_then (λ n. if passes nodes piece.test n then found_from nodes terms (places ++ n ∷ []) others else None) (source_at nodes terms places piece.source)

abbrev pub are_one : Option ℕ → Option ℕ → Bool
are_one (Some m) (Some n) = m == n
are_one m n = false

-- two places have one node
abbrev pub agree : List ℕ → Pair → Bool
agree places p = are_one (slice_get places p.left) (slice_get places p.right)

abbrev pub agreeing : List Pair → List ℕ → Option (List ℕ)
agreeing same places = if list_all (agree places) same then Some places else None

-- the nodes of all pieces, where so many terms are named
abbrev pub found : List Node → List ℕ → Template → Option (List ℕ)
found nodes terms t = if length terms == t.terms then option_and_then (agreeing t.same) (found_from nodes terms [] t.pieces) else None

-- ---- what is needed

-- the numbers at places, behind those before
abbrev pub numbers_at : List ℕ → List ℕ → List ℕ → Option (List ℕ)
numbers_at places before [] = Some before
numbers_at places before (place ∷ others) = option_and_then (λ n. numbers_at places (before ++ n ∷ []) others) (slice_get places place)

abbrev pub made_if : List Node → Node → Option Made
made_if nodes node = if is_well_sorted nodes node then Some (made nodes node) else None

-- a node of which places are the parts; it is made where it doesn't stand yet
abbrev pub placed : List Node → List ℕ → Node → Option Made
placed nodes places need = option_and_then (λ parts. made_if nodes (record { op = need.op; parts = parts })) (numbers_at places [] need.parts)

-- the nodes with those that were needed, and the places
pub record Built : Type 0 where
  pub nodes : List Node
  pub places : List ℕ

abbrev pub built : List Node → List ℕ → List Node → Option Built
built nodes places [] = Some (record { nodes = nodes; places = places })
built nodes places (need ∷ others) = option_and_then (λ (m : Made). built m.nodes (places ++ m.number ∷ []) others) (placed nodes places need)

-- ---- the clause

abbrev pub literal_at : List ℕ → Lit → Lit
literal_at places l = record { positive = l.positive; node = place_at places l.node }

-- what an instance adds: the nodes with those that it makes, and its clause
pub record Added : Type 0 where
  pub nodes : List Node
  pub clause : Clause

abbrev pub added_if : List Node → Clause → Option Added
added_if nodes clause = if are_literals nodes clause then Some (record { nodes = nodes; clause = clause }) else None

abbrev pub with_clause : Template → Built → Option Added
with_clause t b = added_if b.nodes (map (literal_at b.places) t.clause)

-- the instance for the named terms
abbrev pub instantiated : List Node → List ℕ → Template → Option Added
instantiated nodes terms t = option_and_then (with_clause t) (option_and_then (λ places. built nodes places t.needed) (found nodes terms t))
