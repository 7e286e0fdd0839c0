-- Unit propagation.
use Rattle.std.specs.Prelude.{ℕ, Bool, true, false, not, List, [], ◌∷◌, map, filter, slice_get, Option, None, Some, if◌then◌else◌}
use Rattle.std.specs.List.{list_all}
use Rattle.std.specs.Option.{option_and_then, option_map}
use Rattle.df_form.specs.declared.log.Lit.{Lit}
use Rattle.df_form.specs.Node.{Node}
use Rattle.df_form.specs.Clause.{Clause, negation, same_literal, is_among, are_literals}

-- what is left of a clause where these literals are true: those of its literals that are not false
abbrev pub left : List Lit → Clause → List Lit
left known clause = filter (λ l. not (is_among known (negation l))) clause

-- one literal, however often it stands
abbrev pub only : List Lit → Option Lit
only [] = None
only (l ∷ others) = if list_all (same_literal l) others then Some l else None

abbrev pub is_empty : List Lit → Bool
is_empty [] = true
is_empty (l ∷ others) = false

abbrev pub if_some : Option Lit → (Lit → Bool) → Bool
if_some None test = false
if_some (Some l) test = test l

-- From these literals each clause in turn has one literal left, which becomes true, and the last has none.
abbrev pub propagates : List Lit → List Clause → Bool
propagates known [] = false
propagates known (clause ∷ []) = is_empty (left known clause)
propagates known (clause ∷ next ∷ others) = if_some (only (left known clause)) (λ l. propagates (l ∷ known) (next ∷ others))

-- the clauses of these numbers
abbrev pub clauses_at : List Clause → List ℕ → Option (List Clause)
clauses_at clauses [] = Some []
clauses_at clauses (n ∷ others) = option_and_then (λ clause. option_map (λ rest. clause ∷ rest) (clauses_at clauses others)) (slice_get clauses n)

abbrev pub propagation_of : Clause → List Clause → Option Clause
propagation_of conclusion named = if propagates (map negation conclusion) named then Some conclusion else None

-- `u C.. : L..`
abbrev pub propagation_line : List Node → List Clause → List ℕ → Clause → Option Clause
propagation_line nodes clauses numbers conclusion =
    if are_literals nodes conclusion then option_and_then (propagation_of conclusion) (clauses_at clauses numbers) else None
