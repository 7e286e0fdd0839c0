-- The clauses of connectives by their numbers.
use Rattle.std.proofs.Common.{◌≡◌, ℕ, suc, List, [], ◌∷◌, map, slice_get, ap}
use Rattle.df_form.specs.Clause.{yes, no}
use Rattle.df_rules.specs.Connective.{or_clauses}

-- the clauses of an `or` after its first
pub or_later : (n : ℕ) (parts : List ℕ) (k j : ℕ) → k ≡ suc j → slice_get (or_clauses n parts) k ≡ slice_get (map (λ p. yes n ∷ no p ∷ []) parts) j
or_later n parts k j e = ap (slice_get (or_clauses n parts)) e
