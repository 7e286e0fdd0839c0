-- The characters that are read from a string literal are those that it stands for.
use Rattle.std.proofs.Common.{◌≡◌, ℕ, ◌+◌, ◌<◌, ◌==◌, ◌&&◌, ◌||◌, not, nat_le, Bool, true, false, IsTrue, cond, List, [], ◌∷◌, ◌++◌, length, Option, Some, None, inl, inr, refl, sym, ap, subst, ◌∙◌, append_assoc, arith, length-append}
use Rattle.std.proofs.lemmas.Bool.{eqb-true}
use Rattle.df_lemmas.proofs.Truths.{choice}
use Rattle.df_tok.specs.Byte.{is_plain_in_text, escaped}
use Rattle.df_tok.specs.Lexeme.{Part, Plain, Escape, IsPart, AreParts, IsText}
use Rattle.df_ntree.specs.mirror.Reading.{◌>>=◌, escape_at, part_at, whole, characters_of, all_of}
use Rattle.df_ntree.proofs.Repeat.{Shrinks, Run, sound, complete, bind_some, some_is, got, finish_some, no_end, no_find, whole_is}

-- a character from the front, and the quote at the end
pub record One (c : ℕ) (bytes rest : List ℕ) : Type 0 where
  pub part : Part
  pub front : List ℕ
  pub split : bytes ≡ front ++ rest
  pub is : IsPart part front c

abbrev pub End : List ℕ → List ℕ → Type 0
End bytes rest = bytes ≡ 34 ∷ rest

pub escape_sound : (bytes rest : List ℕ) (c : ℕ) → escape_at bytes ≡ Some (Some c, rest) → (e : ℕ) × (escaped e ≡ Some c) × (bytes ≡ e ∷ rest)
unfolding escape_at
escape_sound [] rest c h = absurd cc
escape_sound (e ∷ bytes) rest c h =
    let b = bind_some (escaped e) (λ d. got (Some d) bytes) (Some c, rest) h in
    finish_some (λ (d : ℕ) (r : List ℕ). (x : ℕ) × (escaped x ≡ Some d) × (e ∷ bytes ≡ x ∷ r)) b.0 c bytes rest b.2 (e, b.1, refl)

escape_found : (bytes rest : List ℕ) → escape_at bytes ≡ Some (None, rest) → ⊥
unfolding escape_at
escape_found [] rest h = absurd cc
escape_found (e ∷ bytes) rest h =
    let b = bind_some (escaped e) (λ d. got (Some d) bytes) (None, rest) h in
    no_find b.0 bytes rest b.2

pub one_sound : (c : ℕ) (bytes rest : List ℕ) → part_at bytes ≡ Some (Some c, rest) → One c bytes rest
unfolding part_at
one_sound c [] rest h = absurd cc
one_sound c (b ∷ bytes) rest h =
    elim (choice (b == 34) (got None bytes) (cond (b == 92) (escape_at bytes) (cond (is_plain_in_text b) (Some (Some b, bytes)) None)) (Some (Some c, rest)) h) [
      | inl p ↦ absurd (no_end c bytes rest p.1)
      | inr p ↦ elim (choice (b == 92) (escape_at bytes) (cond (is_plain_in_text b) (Some (Some b, bytes)) None) (Some (Some c, rest)) p.1) [
        | inl q ↦
            let x = escape_sound bytes rest c q.1 in
            record { part = Escape x.0; front = 92 ∷ x.0 ∷ []; split = ap (λ (n : ℕ). n ∷ bytes) (eqb-true b 92 q.0) ∙ ap (λ (bs : List ℕ). 92 ∷ bs) x.2; is = (x.1, refl) }
        | inr q ↦ elim (choice (is_plain_in_text b) (Some (Some b, bytes)) None (Some (Some c, rest)) q.1) [
          | inl r ↦ finish_some (λ (d : ℕ) (k : List ℕ). One d (b ∷ bytes) k) b c bytes rest r.1
              (record { part = Plain b; front = b ∷ []; split = refl; is = (r.0, refl, refl) })
          | inr r ↦ absurd (let h : got (Some c) rest ≡ None = sym r.1 in cc)
        ]
      ]
    ]

pub end_sound : (bytes rest : List ℕ) → part_at bytes ≡ Some (None, rest) → End bytes rest
unfolding part_at
end_sound [] rest h = absurd cc
end_sound (b ∷ bytes) rest h =
    elim (choice (b == 34) (got None bytes) (cond (b == 92) (escape_at bytes) (cond (is_plain_in_text b) (Some (Some b, bytes)) None)) (Some (None, rest)) h) [
      | inl p ↦ ap (λ (n : ℕ). n ∷ bytes) (eqb-true b 34 p.0) ∙ ap (λ (z : Option ℕ × List ℕ). 34 ∷ z.1) (some_is (None, bytes) (None, rest) p.1)
      | inr p ↦ elim (choice (b == 92) (escape_at bytes) (cond (is_plain_in_text b) (Some (Some b, bytes)) None) (Some (None, rest)) p.1) [
        | inl q ↦ absurd (escape_found bytes rest q.1)
        | inr q ↦ elim (choice (is_plain_in_text b) (Some (Some b, bytes)) None (Some (None, rest)) q.1) [
          | inl r ↦ absurd (no_find b bytes rest r.1)
          | inr r ↦ absurd (let h : got None rest ≡ None = sym r.1 in cc)
        ]
      ]
    ]

plain : (x y z : Bool) → IsTrue ((x && not y) && not z) → (y ≡ false) × (z ≡ false)
plain true false false h = (refl, refl)
plain true false true h = absurd cc
plain true true z h = absurd cc
plain false y z h = absurd cc

third : {A : Type 0} (x y z : Bool) (a b c d : A) → x ≡ false → y ≡ false → z ≡ true → cond x a (cond y b (cond z c d)) ≡ c
third x y z a b c d p q r = rw (p, q, r) refl

part_complete : (part : Part) (front : List ℕ) (c : ℕ) (rest : List ℕ) → IsPart part front c → part_at (front ++ rest) ≡ Some (Some c, rest)
unfolding part_at escape_at
part_complete (Plain b) front c rest h =
    let p = plain ((nat_le 32 b && nat_le b 126) || b == 9) (b == 92) (b == 34) h.0 in
    let one : part_at (b ∷ rest) ≡ Some (Some b, rest) = third (b == 34) (b == 92) (is_plain_in_text b) (got None rest) (escape_at rest) (got (Some b) rest) None p.1 p.0 h.0 in
    ap (λ (bs : List ℕ). part_at (bs ++ rest)) h.1 ∙ one ∙ ap (λ (d : ℕ). got (Some d) rest) (sym h.2)
part_complete (Escape e) front c rest h =
    let one : part_at (92 ∷ e ∷ rest) ≡ Some (Some c, rest) = rw (h.0) refl in
    ap (λ (bs : List ℕ). part_at (bs ++ rest)) h.1 ∙ one

pub one_complete : (c : ℕ) (bytes rest : List ℕ) → One c bytes rest → part_at bytes ≡ Some (Some c, rest)
one_complete c bytes rest one = ap part_at one.split ∙ part_complete one.part one.front c rest one.is

pub end_complete : (bytes rest : List ℕ) → End bytes rest → part_at bytes ≡ Some (None, rest)
unfolding part_at
end_complete bytes rest h = rw h refl

part_long : (part : Part) (front : List ℕ) (c : ℕ) → IsPart part front c → 0 < length front
part_long (Plain b) front c h = rw (h.1) (omega arith)
part_long (Escape e) front c h = rw (h.1) (omega arith)

pub part_shrinks : Shrinks part_at
part_shrinks = record {
  falls = λ bytes rest c e.
      let one = one_sound c bytes rest e in
      let long = part_long one.part one.front c one.is in
      let all : length bytes ≡ length one.front + length rest = ap length one.split ∙ length-append one.front rest in
      omega arith;
}

-- ---- all characters

run_parts : (cs bytes rest : List ℕ) → Run One End cs bytes rest → (parts : List Part) × (inner : List ℕ) × (bytes ≡ inner ++ (34 ∷ rest)) × AreParts parts inner cs
run_parts [] bytes rest run = ([], [], run, (refl, refl))
run_parts (c ∷ cs) bytes rest run =
    let one = run.1 in
    let more = run_parts cs run.0 rest run.2 in (
      one.part ∷ more.0,
      one.front ++ more.1,
      one.split ∙ ap (λ (bs : List ℕ). one.front ++ bs) more.2 ∙ sym (append_assoc one.front more.1 (34 ∷ rest)),
      (one.front, more.1, c, cs, refl, refl, one.is, more.3),
    )

parts_run : (parts : List Part) (inner cs rest : List ℕ) → AreParts parts inner cs → Run One End cs (inner ++ (34 ∷ rest)) rest
parts_run [] inner cs rest p = subst (λ (xs : List ℕ). Run One End xs (inner ++ (34 ∷ rest)) rest) (sym p.1) (ap (λ (bs : List ℕ). bs ++ (34 ∷ rest)) p.0)
parts_run (part ∷ parts) inner cs rest p =
    let bytes : inner ++ (34 ∷ rest) ≡ p.0 ++ (p.1 ++ (34 ∷ rest)) = ap (λ (bs : List ℕ). bs ++ (34 ∷ rest)) p.4 ∙ append_assoc p.0 p.1 (34 ∷ rest) in
    subst (λ (xs : List ℕ). Run One End xs (inner ++ (34 ∷ rest)) rest) (sym p.5)
    (p.1 ++ (34 ∷ rest), record { part = part; front = p.0; split = bytes; is = p.6 }, parts_run parts p.1 p.3 rest p.7)

pub characters_sound : (text cs : List ℕ) → characters_of text ≡ Some cs → IsText text cs
unfolding characters_of
characters_sound [] cs h = absurd cc
characters_sound (b ∷ bytes) cs h =
    elim (choice (b == 34) (all_of part_at bytes >>= whole) None (Some cs) h) [
      | inl p ↦
          let found = bind_some (all_of part_at bytes) whole cs p.1 in
          let w = whole_is found.0.0 found.0.1 cs found.2 in
          let run = sound part_at One End one_sound end_sound bytes found.0.0 found.0.1 found.1 in
          let q = run_parts found.0.0 bytes found.0.1 run in
          let here : bytes ≡ q.1 ++ (34 ∷ []) = q.2 ∙ ap (λ (r : List ℕ). q.1 ++ (34 ∷ r)) w.1 in
          (q.0, q.1, ap (λ (n : ℕ). n ∷ bytes) (eqb-true b 34 p.0) ∙ ap (λ (bs : List ℕ). 34 ∷ bs) here, subst (λ (xs : List ℕ). AreParts q.0 q.1 xs) w.0 q.3)
      | inr p ↦ absurd cc
    ]

pub characters_complete : (text cs : List ℕ) → IsText text cs → characters_of text ≡ Some cs
unfolding characters_of
characters_complete text cs h =
    let run = parts_run h.0 h.1 cs [] h.3 in
    let all = complete part_at part_shrinks One End one_complete end_complete cs (h.1 ++ (34 ∷ [])) [] run in
    ap characters_of h.2 ∙ rw all refl
