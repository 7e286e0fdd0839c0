-- The first index where a test passes, looked for from the front.
use Rattle.std.proofs.Common.{◌≡◌, ℕ, zero, suc, ◌+◌, ◌<◌, ◌≤◌, Bool, true, false, List, [], ◌∷◌, length, drop, None, Some, refl, sym, ap, ◌∙◌, add-one, arith}
use Rattle.std.specs.List.{position, position_from, slice_get}
use Rattle.std.specs.Option.{option_map_or}
use Rattle.std.proofs.lemmas.Iterator.Adapters.{position_from-zero}

-- from here on it is found where it is found in all
pub record IsFrom {X : Type 0} (test : X → Bool) (xs : List X) (i : ℕ) : Type 0 where
  pub is : position test xs ≡ position_from test i (drop i xs)

-- the test passes at an index
abbrev pub passes_at : {X : Type 0} → (X → Bool) → List X → ℕ → Bool
passes_at test xs i = option_map_or test (slice_get xs i) false

passes_first : {X : Type 0} (test : X → Bool) (xs : List X) (i n : ℕ) → passes_at test xs i ≡ true → position_from test n (drop i xs) ≡ Some n
passes_first test [] i n e = absurd cc
passes_first test (x ∷ xs) zero n e = rw e refl
passes_first test (x ∷ xs) (suc i) n e = passes_first test xs i n e

passes_later : {X : Type 0} (test : X → Bool) (xs : List X) (i n : ℕ) → i < length xs → passes_at test xs i ≡ false → position_from test n (drop i xs) ≡ position_from test (n + 1) (drop (suc i) xs)
passes_later test [] i n less e = absurd (omega arith)
passes_later test (x ∷ xs) zero n less e = rw e refl
passes_later test (x ∷ xs) (suc i) n less e = passes_later test xs i n (omega arith) e

passes_nowhere : {X : Type 0} (test : X → Bool) (xs : List X) (i n : ℕ) → length xs ≤ i → position_from test n (drop i xs) ≡ None
passes_nowhere test [] zero n past = refl
passes_nowhere test [] (suc i) n past = refl
passes_nowhere test (x ∷ xs) zero n past = absurd (omega arith)
passes_nowhere test (x ∷ xs) (suc i) n past = passes_nowhere test xs i n (omega arith)

pub begins : {X : Type 0} (test : X → Bool) (xs : List X) → IsFrom test xs 0
begins test xs = record { is = position_from-zero test xs }

pub goes_on : {X : Type 0} (test : X → Bool) (xs : List X) (i : ℕ) → i < length xs → passes_at test xs i ≡ false → IsFrom test xs i → IsFrom test xs (i + 1)
goes_on test xs i less fails from = record { is = from.is ∙ passes_later test xs i i less fails ∙ ap (λ k. position_from test (i + 1) (drop k xs)) (sym (add-one i)) }

pub is_found : {X : Type 0} (test : X → Bool) (xs : List X) (i : ℕ) → passes_at test xs i ≡ true → IsFrom test xs i → Some i ≡ position test xs
is_found test xs i passes from = sym (from.is ∙ passes_first test xs i i passes)

pub is_nowhere : {X : Type 0} (test : X → Bool) (xs : List X) (i : ℕ) → length xs ≤ i → IsFrom test xs i → None ≡ position test xs
is_nowhere test xs i past from = sym (from.is ∙ passes_nowhere test xs i i past)
