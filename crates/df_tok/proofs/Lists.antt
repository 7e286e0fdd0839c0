-- Tools: tests in chains, fronts of lists, runs and searches.
use Rattle.std.proofs.Common.{◌≡◌, ℕ, ◌+◌, ◌≤◌, inl, inr, Bool, true, false, List, [], ◌∷◌, ◌++◌, length, take, drop, Some, refl, sym, ap, subst, ◌∙◌, arith}
use Rattle.std.specs.Prelude.{IsTrue, nat_eq}
use Rattle.std.specs.List.{AllByRecursion, prefix_len, starts_with, find}
use Rattle.std.proofs.lemmas.List.{take-append-drop, take_at, drop_at, length-append}
use Rattle.std.proofs.lemmas.Slice.Eq.{bytes_eq-Decides}
use Rattle.std.proofs.lemmas.Option.{same_Some}
use Rattle.df_lemmas.proofs.Truths.{choice}
use Rattle.df_tok.specs.Lexeme.{NotNext}

-- ---- fronts

pub starts_front : (bytes text : List ℕ) → starts_with nat_eq bytes text ≡ true → bytes ≡ text ++ drop (length text) bytes
starts_front bytes text h =
    let e : text ≡ take (length text) bytes = (bytes_eq-Decides text (take (length text) bytes)).0 h in
    sym (take-append-drop (length text) bytes) ∙ ap (λ (t : List ℕ). t ++ drop (length text) bytes) (sym e)

pub starts_again : (text rest : List ℕ) → starts_with nat_eq (text ++ rest) text ≡ true
starts_again text rest = (bytes_eq-Decides text (take (length text) (text ++ rest))).1 (sym (take_at text rest (length text) refl))

-- bytes in two parts, the first so long
pub record Parts (bytes front rest : List ℕ) (n : ℕ) : Type 0 where
  pub is : bytes ≡ front ++ rest
  pub len : length front ≡ n

pub Parts-take : (bytes front rest : List ℕ) (n : ℕ) → Parts bytes front rest n → front ≡ take n bytes
Parts-take bytes front rest n p = sym (ap (take n) p.is ∙ take_at front rest n p.len)

pub Parts-drop : (bytes front rest : List ℕ) (n : ℕ) → Parts bytes front rest n → rest ≡ drop n bytes
Parts-drop bytes front rest n p = sym (ap (drop n) p.is ∙ drop_at front rest n p.len)

pub Parts-le : (bytes front rest : List ℕ) (n : ℕ) → Parts bytes front rest n → n ≤ length bytes
Parts-le bytes front rest n p = omega (arith, ap length p.is, length-append front rest, p.len)

-- ---- runs

abbrev pub Passes : (ℕ → Bool) → List ℕ → Type 0
Passes p bytes = AllByRecursion (λ b. IsTrue (p b)) bytes

pub run_all : (p : ℕ → Bool) (xs ys : List ℕ) → Passes p xs → prefix_len p (xs ++ ys) ≡ length xs + prefix_len p ys
run_all p [] ys h = omega arith
run_all p (x ∷ xs) ys h = rw h.0 (omega (arith, run_all p xs ys h.1))

pub run_none : (p : ℕ → Bool) (ys : List ℕ) → NotNext p ys → prefix_len p ys ≡ 0
run_none p [] h = refl
run_none p (y ∷ ys) h = rw h refl

-- a run, and what stands behind it
pub record Run (p : ℕ → Bool) (bytes : List ℕ) : Type 0 where
  pub front : List ℕ
  pub rest : List ℕ
  pub parts : Parts bytes front rest (prefix_len p bytes)
  pub passes : Passes p front
  pub stops : NotNext p rest

run_more : (p : ℕ → Bool) (x : ℕ) (xs : List ℕ) (b : Bool) → p x ≡ b → Run p xs → Run p (x ∷ xs)
run_more p x xs true e r = record {
  front = x ∷ r.front;
  rest = r.rest;
  parts = record { is = ap (λ (t : List ℕ). x ∷ t) r.parts.is; len = rw e (omega (arith, r.parts.len)) };
  passes = (e, r.passes);
  stops = r.stops;
}
run_more p x xs false e r = record { front = []; rest = x ∷ xs; parts = record { is = refl; len = rw e refl }; passes = tt; stops = e }

pub run_of : (p : ℕ → Bool) (bytes : List ℕ) → Run p bytes
run_of p [] = record { front = []; rest = []; parts = record { is = refl; len = refl }; passes = tt; stops = tt }
run_of p (x ∷ xs) = run_more p x xs (p x) refl (run_of p xs)

-- ---- searches

pub find_passes : {A : Type 0} (p : A → Bool) (xs : List A) (x : A) → find p xs ≡ Some x → p x ≡ true
find_passes p [] x e = absurd cc
find_passes p (y ∷ ys) x e = elim (choice (p y) (Some y) (find p ys) (Some x) e) [ inl h ↦ subst (λ z. p z ≡ true) (same_Some y x h.1) h.0 | inr h ↦ find_passes p ys x h.1 ]
