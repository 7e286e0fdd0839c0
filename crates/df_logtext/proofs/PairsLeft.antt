-- What is left behind two words of a pair.
use Rattle.std.proofs.Common.{◌≡◌, ℕ, ◌≤◌, ◌-◌, List, [], ◌∷◌, ◌++◌, length, map, take, drop, slice_index_or, Some, refl, ap, ◌∙◌, arith}
use Rattle.df_form.specs.declared.log.Pair.{Pair}
use Rattle.df_logtext.specs.Words.{pair_of, index_of, pairs_from}

all_taken : {X : Type 0} (xs : List X) → take (length xs) xs ≡ xs
all_taken [] = refl
all_taken (x ∷ xs) = ap (λ ys. x ∷ ys) (all_taken xs)

pub two_left : {X : Type 0} (f : X → List ℕ) (before : List Pair) (rest : List X) (d : X) (p : Pair) → 2 ≤ length rest → pair_of (index_of (f (slice_index_or rest 0 d))) (index_of (f (slice_index_or rest 1 d))) ≡ Some p
    → pairs_from (before ++ p ∷ []) (map f (take (length rest - 2) (drop 2 rest))) ≡ pairs_from before (map f rest)
two_left f before [] d p le e = absurd (omega (arith, le))
two_left f before (x ∷ []) d p le e = absurd (omega (arith, le))
two_left f before (x ∷ y ∷ rest) d p le e =
    let long : length (x ∷ y ∷ rest) - 2 ≡ length rest = omega arith in
    rw (e) (ap (λ n. pairs_from (before ++ p ∷ []) (map f (take n rest))) long ∙ ap (λ ws. pairs_from (before ++ p ∷ []) (map f ws)) (all_taken rest))
