-- Parts of nodes stand before them.
use Rattle.std.proofs.Common.{◌≡◌, ℕ, ◌<◌, true, List, [], ◌∷◌, nat_lt, arith, ltb-true}
use Rattle.std.specs.List.{list_all}
use Rattle.std.proofs.lemmas.Bool.{and_parts}

pub first_below : (n : ℕ) (parts : List ℕ) (a : ℕ) (others : List ℕ) → list_all (λ part. nat_lt part n) parts ≡ true → parts ≡ a ∷ others → a < n
first_below n [] a others all e = absurd cc
first_below n (p ∷ parts) a others all e =
    let here = ltb-true p n (and_parts (nat_lt p n) (list_all (λ part. nat_lt part n) parts) all).0 in
    let same : p ≡ a = cc in
    omega (arith, here, same)
