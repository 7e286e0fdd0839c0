-- Block comments: what closes the open ones is found, and what is found closes them.
use Rattle.std.proofs.Common.{◌≡◌, ℕ, zero, suc, ◌+◌, inl, inr, Bool, true, false, eqb, List, [], ◌∷◌, ◌++◌, length, Option, Some, refl, sym, ap, ◌∙◌, arith, add-one, sub-one}
use Rattle.std.specs.Prelude.{◌&&◌, MatchBool}
use Rattle.std.proofs.lemmas.Bool.{ne_eqb, MatchBool-at_true, MatchBool-at_false, cases_Bool}
use Rattle.std.proofs.lemmas.Option.{same_Some}
use Rattle.df_tok.specs.Division.{Closes}
use Rattle.df_tok.specs.Scanning.{more, comment_len}
use Rattle.df_tok.proofs.Lists.{Parts}
use Rattle.df_tok.proofs.Literals.{less_one}

abbrev opens : ℕ → ℕ → Bool
opens a b = eqb a 47 && eqb b 42

abbrev shuts : ℕ → ℕ → Bool
shuts a b = eqb a 42 && eqb b 47

-- a byte that was used already counts nothing
pub unused : (depth : ℕ) (bytes : List ℕ) → Closes (suc depth) bytes → Closes (suc depth) (0 ∷ bytes)
unused depth [] h = absurd h
unused depth (b ∷ bs) h = h

pub used : (depth : ℕ) (bytes : List ℕ) → Closes (suc depth) (0 ∷ bytes) → Closes (suc depth) bytes
used depth [] h = absurd h
used depth (b ∷ bs) h = h

-- ---- found where it closes

one_more : (o : Option ℕ) (k : ℕ) → o ≡ Some k → more 1 o ≡ Some (suc k)
one_more o k e = ap (more 1) e ∙ ap Some (omega arith)

step_opens : (depth before b : ℕ) (bs : List ℕ) → opens before b ≡ true → comment_len depth before (b ∷ bs) ≡ more 1 (comment_len (suc depth) 0 bs)
step_opens depth before b bs e = rw (e, add-one) refl

step_shuts : (depth before b : ℕ) (bs : List ℕ) → opens before b ≡ false → shuts before b ≡ true → comment_len (suc depth) before (b ∷ bs) ≡ more 1 (comment_len depth 0 bs)
step_shuts depth before b bs e f = rw (e, f, ne_eqb (suc depth) 0 (λ p. absurd (omega arith)), sub-one) refl

step_last : (before b : ℕ) (bs : List ℕ) → opens before b ≡ false → shuts before b ≡ true → comment_len 0 before (b ∷ bs) ≡ Some 1
step_last before b bs e f = rw (e, f) refl

step_on : (depth before b : ℕ) (bs : List ℕ) → opens before b ≡ false → shuts before b ≡ false → comment_len depth before (b ∷ bs) ≡ more 1 (comment_len depth b bs)
step_on depth before b bs e f = rw (e, f) refl

pub comment_again : (depth before : ℕ) (inner rest : List ℕ) → Closes (suc depth) (before ∷ inner) → comment_len depth before (inner ++ rest) ≡ Some (length inner)
comment_again depth before [] rest h = absurd h
comment_again depth before (b ∷ inner) rest h = elim (cases_Bool (opens before b)) [
  | inl e ↦
      let g : Closes (suc (suc depth)) inner = MatchBool-at_true _ _ e h in
      step_opens depth before b (inner ++ rest) e ∙ one_more _ (length inner) (comment_again (suc depth) 0 inner rest (unused (suc depth) inner g))
  | inr e ↦
      let g : MatchBool (shuts before b) (Closes depth inner) (Closes (suc depth) (b ∷ inner)) = MatchBool-at_false _ _ e h in
      elim (cases_Bool (shuts before b)) [
        | inl f ↦ closing depth e f (MatchBool-at_true _ _ f g) (λ d. comment_again d 0 inner rest)
        | inr f ↦ step_on depth before b (inner ++ rest) e f ∙ one_more _ (length inner) (comment_again depth b inner rest (MatchBool-at_false _ _ f g))
      ]
]
  where
    closing : (d : ℕ) → opens before b ≡ false → shuts before b ≡ true → Closes d inner → ((k : ℕ) → Closes (suc k) (0 ∷ inner) → comment_len k 0 (inner ++ rest) ≡ Some (length inner)) → comment_len d before (b ∷ (inner ++ rest)) ≡ Some (suc (length inner))
    closing zero e f g next = step_last before b (inner ++ rest) e f ∙ ap Some (omega (arith, ap length g))
    closing (suc d) e f g next = step_shuts d before b (inner ++ rest) e f ∙ one_more _ (length inner) (next d (unused d inner g))

-- ---- what is found closes

pub record Closing (depth before : ℕ) (bytes : List ℕ) (n : ℕ) : Type 0 where
  pub inner : List ℕ
  pub rest : List ℕ
  pub parts : Parts bytes inner rest n
  pub closes : Closes (suc depth) (before ∷ inner)

longer : (bytes inner rest : List ℕ) (b k n : ℕ) → n ≡ 1 + k → Parts bytes inner rest k → Parts (b ∷ bytes) (b ∷ inner) rest n
longer bytes inner rest b k n e p = record { is = ap (λ (t : List ℕ). b ∷ t) p.is; len = omega (arith, p.len) }

closes_opens : (depth before b : ℕ) (inner : List ℕ) → opens before b ≡ true → Closes (suc (suc depth)) inner → Closes (suc depth) (before ∷ b ∷ inner)
closes_opens depth before b inner e h = rw e h

closes_shuts : (depth before b : ℕ) (inner : List ℕ) → opens before b ≡ false → shuts before b ≡ true → Closes depth inner → Closes (suc depth) (before ∷ b ∷ inner)
closes_shuts depth before b inner e f h = rw (e, f) h

closes_on : (depth before b : ℕ) (inner : List ℕ) → opens before b ≡ false → shuts before b ≡ false → Closes (suc depth) (b ∷ inner) → Closes (suc depth) (before ∷ b ∷ inner)
closes_on depth before b inner e f h = rw (e, f) h

pub comment_sound : (depth before : ℕ) (bytes : List ℕ) (n : ℕ) → comment_len depth before bytes ≡ Some n → Closing depth before bytes n
comment_sound depth before [] n h = absurd cc
comment_sound depth before (b ∷ bs) n h = elim (cases_Bool (opens before b)) [
  | inl e ↦
      let k = less_one (comment_len (suc depth) 0 bs) n (sym (step_opens depth before b bs e) ∙ h) in
      let r = comment_sound (suc depth) 0 bs k.0 k.1 in
      record { inner = b ∷ r.inner; rest = r.rest; parts = longer bs r.inner r.rest b k.0 n k.2 r.parts; closes = closes_opens depth before b r.inner e (used (suc depth) r.inner r.closes) }
  | inr e ↦ elim (cases_Bool (shuts before b)) [
    | inl f ↦ closing depth e f h (λ d k. comment_sound d 0 bs k)
    | inr f ↦
        let k = less_one (comment_len depth b bs) n (sym (step_on depth before b bs e f) ∙ h) in
        let r = comment_sound depth b bs k.0 k.1 in
        record { inner = b ∷ r.inner; rest = r.rest; parts = longer bs r.inner r.rest b k.0 n k.2 r.parts; closes = closes_on depth before b r.inner e f r.closes }
  ]
]
  where
    closing : (d : ℕ) → opens before b ≡ false → shuts before b ≡ true → comment_len d before (b ∷ bs) ≡ Some n → ((i k : ℕ) → comment_len i 0 bs ≡ Some k → Closing i 0 bs k) → Closing d before (b ∷ bs) n
    closing zero e f g next = record {
      inner = b ∷ [];
      rest = bs;
      parts = record { is = refl; len = same_Some 1 n (sym (step_last before b bs e f) ∙ g) };
      closes = closes_shuts 0 before b [] e f refl;
    }
    closing (suc d) e f g next =
        let k = less_one (comment_len d 0 bs) n (sym (step_shuts d before b bs e f) ∙ g) in
        let r = next d k.0 k.1 in
        record { inner = b ∷ r.inner; rest = r.rest; parts = longer bs r.inner r.rest b k.0 n k.2 r.parts; closes = closes_shuts (suc d) before b r.inner e f (used d r.inner r.closes) }
