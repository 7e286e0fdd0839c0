-- The defining clauses of connectives: first what a node gives its parts, then what they give it.
use Rattle.std.specs.Prelude.{ℕ, suc, zero, List, [], ◌∷◌, ◌++◌, map, slice_get, Option, None, Some}
use Rattle.std.specs.Option.{option_map, option_and_then}
use Rattle.df_form.specs.declared.node.Sort.{Sort}
use Rattle.df_form.specs.declared.node.Sort.TheVariants as sorts
use Rattle.df_form.specs.declared.node.Op.{Op}
use Rattle.df_form.specs.declared.node.Op.TheVariants as ops
use Rattle.df_form.specs.Node.{Node}
use Rattle.df_form.specs.Sorting.{sort_at}
use Rattle.df_form.specs.Clause.{Clause, yes, no}
use Rattle.df_form.specs.Made.{made}
pub use Rattle.df_axiom.specs.Instance.{Added}
use Rattle.df_rules.specs.Bound.{at_most}

-- the clause of this number, which makes no node
abbrev pub chosen : List Node → List Clause → ℕ → Option Added
chosen nodes clauses k = option_map (λ clause. record { nodes = nodes; clause = clause }) (slice_get clauses k)

abbrev pub not_clauses : ℕ → ℕ → List Clause
not_clauses n p = (no n ∷ no p ∷ []) ∷ (yes n ∷ yes p ∷ []) ∷ []

abbrev pub and_clauses : ℕ → List ℕ → List Clause
and_clauses n parts = map (λ p. no n ∷ yes p ∷ []) parts ++ (yes n ∷ map no parts) ∷ []

abbrev pub or_clauses : ℕ → List ℕ → List Clause
or_clauses n parts = (no n ∷ map yes parts) ∷ map (λ p. yes n ∷ no p ∷ []) parts

abbrev pub implies_clauses : ℕ → ℕ → ℕ → List Clause
implies_clauses n a b = (no n ∷ no a ∷ yes b ∷ []) ∷ (yes n ∷ yes a ∷ []) ∷ (yes n ∷ no b ∷ []) ∷ []

abbrev pub iff_clauses : ℕ → ℕ → ℕ → List Clause
iff_clauses n a b = (no n ∷ no a ∷ yes b ∷ []) ∷ (no n ∷ yes a ∷ no b ∷ []) ∷ (yes n ∷ yes a ∷ yes b ∷ []) ∷ (yes n ∷ no a ∷ no b ∷ []) ∷ []

-- An equality of numbers counts as the `and` of its two comparisons. A clause makes those that it holds.
abbrev pub equal_clause : List Node → ℕ → ℕ → ℕ → ℕ → Option Added
equal_clause nodes n a b zero =
    let up = made nodes (at_most a b) in
    Some (record { nodes = up.nodes; clause = no n ∷ yes up.number ∷ [] })
equal_clause nodes n a b (suc zero) =
    let down = made nodes (at_most b a) in
    Some (record { nodes = down.nodes; clause = no n ∷ yes down.number ∷ [] })
equal_clause nodes n a b (suc (suc zero)) =
    let up = made nodes (at_most a b) in
    let down = made up.nodes (at_most b a) in
    Some (record { nodes = down.nodes; clause = yes n ∷ no up.number ∷ no down.number ∷ [] })
equal_clause nodes n a b (suc (suc (suc k))) = None

-- an equality of characters is no connective
abbrev pub equal_by_sort : Sort → List Node → ℕ → ℕ → ℕ → ℕ → Option Added
equal_by_sort sorts.Number nodes n a b k = equal_clause nodes n a b k
equal_by_sort sorts.Truth nodes n a b k = None
equal_by_sort sorts.Character nodes n a b k = None

-- an operation of two parts
abbrev pub of_two : {A : Type 0} → (ℕ → ℕ → Option A) → List ℕ → Option A
of_two f (a ∷ b ∷ []) = f a b
of_two f parts = None

abbrev pub of_one : {A : Type 0} → (ℕ → Option A) → List ℕ → Option A
of_one f (p ∷ []) = f p
of_one f parts = None

-- the clause of this number of the node of number n
abbrev pub connective_clause : List Node → ℕ → ℕ → Op → List ℕ → Option Added
connective_clause nodes n k ops.Not parts = of_one (λ p. chosen nodes (not_clauses n p) k) parts
connective_clause nodes n k ops.And parts = chosen nodes (and_clauses n parts) k
connective_clause nodes n k ops.Or parts = chosen nodes (or_clauses n parts) k
connective_clause nodes n k ops.Implies parts = of_two (λ a b. chosen nodes (implies_clauses n a b) k) parts
connective_clause nodes n k ops.Iff parts = of_two (λ a b. chosen nodes (iff_clauses n a b) k) parts
connective_clause nodes n k ops.Equal parts = of_two (λ a b. equal_by_sort (sort_at nodes a) nodes n a b k) parts
connective_clause nodes n k op parts = None

-- `x N K`
abbrev pub connective_line : List Node → ℕ → ℕ → Option Added
connective_line nodes n k = option_and_then (λ node. connective_clause nodes n k node.op node.parts) (slice_get nodes n)
