-- Tests of kinds of tokens.
use Rattle.std.proofs.Common.{◌≡◌, ℕ, ◌==◌, ◌⊎◌, inl, inr, Bool, true, false, not, List, [], ◌∷◌, ◌++◌, eqb-true}
use Rattle.std.specs.List.{list_all}
use Rattle.std.proofs.lemmas.Bool.{and_parts, or_cases, or_left, or_right}
use Rattle.df_tok.specs.Token.{Token}
use Rattle.df_tree.specs.Terminal.{terminal}
use Rattle.df_tree.specs.Grammar.{is_in, first_in}

abbrev pub subset : List ℕ → List ℕ → Bool
subset c d = list_all (λ k. is_in k d) c

-- None is in both.
abbrev pub apart : List ℕ → List ℕ → Bool
apart c d = list_all (λ k. not (is_in k d)) c

in_subset : (c d : List ℕ) (x : ℕ) → subset c d ≡ true → is_in x c ≡ true → is_in x d ≡ true
in_subset [] d x s e = absurd (let f : false ≡ true = e in cc)
in_subset (k ∷ c) d x s e =
    let parts = and_parts (is_in k d) (subset c d) s in
    elim (or_cases (k == x) (is_in x c) e) [
      | inl h ↦ rw (eqb-true k x h) at parts.0
      | inr h ↦ in_subset c d x parts.1 h
    ]

in_apart : (c d : List ℕ) (x : ℕ) → apart c d ≡ true → is_in x c ≡ true → is_in x d ≡ true → ⊥
in_apart [] d x s e f = let g : false ≡ true = e in cc
in_apart (k ∷ c) d x s e f =
    let parts = and_parts (not (is_in k d)) (apart c d) s in
    elim (or_cases (k == x) (is_in x c) e) [
      | inl h ↦ (let g : is_in k d ≡ true = rw (eqb-true k x h) f in let m : not true ≡ true = rw g at parts.0 in cc)
      | inr h ↦ in_apart c d x parts.1 h f
    ]

in_left : (c d : List ℕ) (x : ℕ) → is_in x c ≡ true → is_in x (c ++ d) ≡ true
in_left [] d x e = absurd (let f : false ≡ true = e in cc)
in_left (k ∷ c) d x e = elim (or_cases (k == x) (is_in x c) e) [
  | inl h ↦ or_left (k == x) (is_in x (c ++ d)) h
  | inr h ↦ or_right (k == x) (is_in x (c ++ d)) (in_left c d x h)
]

in_right : (c d : List ℕ) (x : ℕ) → is_in x d ≡ true → is_in x (c ++ d) ≡ true
in_right [] d x e = e
in_right (k ∷ c) d x e = or_right (k == x) (is_in x (c ++ d)) (in_right c d x e)

pub first_subset : (c d : List ℕ) (tokens : List Token) → subset c d ≡ true → first_in c tokens ≡ true → first_in d tokens ≡ true
first_subset c d [] s e = absurd (let f : false ≡ true = e in cc)
first_subset c d (x ∷ xs) s e = in_subset c d (terminal x) s e

pub first_apart : (c d : List ℕ) (tokens : List Token) → apart c d ≡ true → first_in c tokens ≡ true → first_in d tokens ≡ true → ⊥
first_apart c d [] s e f = let g : false ≡ true = e in cc
first_apart c d (x ∷ xs) s e f = in_apart c d (terminal x) s e f

pub first_left : (c d : List ℕ) (tokens : List Token) → first_in c tokens ≡ true → first_in (c ++ d) tokens ≡ true
first_left c d [] e = absurd (let f : false ≡ true = e in cc)
first_left c d (x ∷ xs) e = in_left c d (terminal x) e

pub first_right : (c d : List ℕ) (tokens : List Token) → first_in d tokens ≡ true → first_in (c ++ d) tokens ≡ true
first_right c d [] e = absurd (let f : false ≡ true = e in cc)
first_right c d (x ∷ xs) e = in_right c d (terminal x) e

-- There is no token, or it is of one of the kinds.
abbrev pub MayCome : List ℕ → List Token → Type 0
MayCome c tokens = (tokens ≡ []) ⊎ (first_in c tokens ≡ true)

pub come_subset : (c d : List ℕ) (tokens : List Token) → subset c d ≡ true → MayCome c tokens → MayCome d tokens
come_subset c d tokens s (inl e) = inl e
come_subset c d tokens s (inr e) = inr (first_subset c d tokens s e)

pub come_apart : (c d : List ℕ) (tokens : List Token) → apart c d ≡ true → MayCome d tokens → first_in c tokens ≡ true → ⊥
come_apart c d tokens s (inl e) f = let g : first_in c [] ≡ true = rw e at f in let h : false ≡ true = g in cc
come_apart c d tokens s (inr e) f = first_apart c d tokens s f e
