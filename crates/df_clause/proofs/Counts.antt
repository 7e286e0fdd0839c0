-- How many clauses conjunctions and disjunctions have.
use Rattle.std.proofs.Common.{◌≡◌, ℕ, ◌+◌, List, [], ◌∷◌, map, length, arith}
use Rattle.std.proofs.lemmas.List.{length-map, length-append}
use Rattle.df_form.specs.Clause.{yes, no}
use Rattle.df_rules.specs.Connective.{and_clauses, or_clauses}

pub and_length : (n : ℕ) (parts : List ℕ) → length (and_clauses n parts) ≡ length parts + 1
and_length n parts =
    let first = length-append (map (λ p. no n ∷ yes p ∷ []) parts) ((yes n ∷ map no parts) ∷ []) in
    let each = length-map parts (λ p. no n ∷ yes p ∷ []) in
    omega arith

pub or_length : (n : ℕ) (parts : List ℕ) → length (or_clauses n parts) ≡ length parts + 1
or_length n parts =
    let each = length-map parts (λ p. yes n ∷ no p ∷ []) in
    omega arith
