-- Literals: what is found at the front is one, and one that stands there is found.
use Rattle.std.proofs.Common.{◌≡◌, ℕ, ◌+◌, ◌≤◌, inl, inr, Bool, true, false, cond, eqb, List, [], ◌∷◌, ◌++◌, length, take, drop, Option, Some, None, refl, sym, ap, subst, ◌∙◌, append_assoc, arith}
use Rattle.std.specs.Prelude.{nat_eq, ◌&&◌, ◌||◌, not, codes, is_some, option_map}
use Rattle.std.specs.List.{starts_with, prefix_len}
use Rattle.std.proofs.lemmas.Bool.{and_parts, or_left, or_right, not-true, eqb-true, eq-eqb, cases_Bool, false≢true}
use Rattle.std.proofs.lemmas.Bool.Decides.{nat_tests}
use Rattle.std.proofs.lemmas.Option.{some_pair_parts, cond_some, same_Some}
use Rattle.std.proofs.lemmas.List.{length-append, take_at}
use Rattle.df_lemmas.proofs.Truths.{choice}
use Rattle.df_tok.specs.Byte.{is_letter, is_digit, is_hex_digit, continues_number, is_plain_in_character, is_plain_in_text, escaped}
use Rattle.df_tok.specs.Lexeme.{NotNext, AreDigits, IsNumber, IsCharacter, Part, Plain, Escape, AreParts, IsText}
use Rattle.df_tok.specs.Scanning.{more, are_digits, is_number, number_at, character_at, text_len}
use Rattle.df_tok.proofs.Lists.{Parts, Parts-take, Parts-drop, Parts-le, Passes, run_of, run_all, run_none, starts_front}

-- ---- digits

pub digits_sound : (digit : ℕ → Bool) (bs : List ℕ) → are_digits digit false bs ≡ true → AreDigits digit bs
digits_sound digit [] h = absurd (false≢true h)
digits_sound digit (d ∷ []) h = elim (choice (digit d) true false true h) [ inl p ↦ p.0 | inr p ↦ absurd (false≢true p.1) ]
digits_sound digit (d ∷ e ∷ rest) h = elim (choice (digit d) (are_digits digit true (e ∷ rest)) false true h) [
  | inl p ↦ (
    p.0,
    elim (choice (digit e) (are_digits digit true rest) (cond (eqb e 95) (are_digits digit false rest) false) true p.1) [
      | inl q ↦ inl (digits_sound digit (e ∷ rest) (rw q.0 q.1))
      | inr q ↦ elim (choice (eqb e 95) (are_digits digit false rest) false true q.1) [
        | inl r ↦ inr (eqb-true e 95 r.0, digits_sound digit rest r.1)
        | inr r ↦ absurd (false≢true r.1)
      ]
    ],
  )
  | inr p ↦ absurd (false≢true p.1)
]

digits_first : (digit : ℕ → Bool) (bs : List ℕ) → are_digits digit false bs ≡ true → are_digits digit true bs ≡ true
digits_first digit [] h = refl
digits_first digit (d ∷ ds) h = elim (choice (digit d) (are_digits digit true ds) false true h) [ inl p ↦ rw p.0 p.1 | inr p ↦ absurd (false≢true p.1) ]

pub digits_complete : (digit : ℕ → Bool) (bs : List ℕ) → digit 95 ≡ false → AreDigits digit bs → are_digits digit false bs ≡ true
digits_complete digit [] other h = absurd h
digits_complete digit (d ∷ []) other h = rw h refl
digits_complete digit (d ∷ e ∷ rest) other (h, inl ds) = rw h (digits_first digit (e ∷ rest) (digits_complete digit (e ∷ rest) other ds))
digits_complete digit (d ∷ e ∷ rest) other (h, inr (is, ds)) =
    let none : digit e ≡ false = ap digit is ∙ other in
    rw (h, none, eq-eqb e 95 is) (digits_complete digit rest other ds)

digits_pass : (digit p : ℕ → Bool) (bs : List ℕ) → ((b : ℕ) → digit b ≡ true → p b ≡ true) → p 95 ≡ true → AreDigits digit bs → Passes p bs
digits_pass digit p [] each line h = absurd h
digits_pass digit p (d ∷ []) each line h = (each d h, tt)
digits_pass digit p (d ∷ e ∷ rest) each line (h, inl ds) = (each d h, digits_pass digit p (e ∷ rest) each line ds)
digits_pass digit p (d ∷ e ∷ rest) each line (h, inr (is, ds)) = (each d h, (ap p is ∙ line, digits_pass digit p rest each line ds))

-- ---- numbers

number_sound : (text : List ℕ) → is_number text ≡ true → IsNumber text
number_sound text h = elim (choice (starts_with nat_eq text (codes "0x")) (are_digits is_hex_digit false (drop 2 text)) (are_digits is_digit false text) true h) [
  | inl p ↦ inr (drop 2 text, starts_front text (codes "0x") p.0, digits_sound is_hex_digit _ p.1)
  | inr p ↦ inl (digits_sound is_digit text p.1)
]

no_x : (rest : List ℕ) → AreDigits is_digit (120 ∷ rest) → ⊥
no_x [] h = false≢true h
no_x (r ∷ rest) h = false≢true h.0

not_hex : (rest : List ℕ) → AreDigits is_digit (48 ∷ 120 ∷ rest) → ⊥
not_hex rest (h, inl ds) = no_x rest ds
not_hex rest (h, inr (is, ds)) = absurd (omega arith)

number_complete : (text : List ℕ) → IsNumber text → is_number text ≡ true
number_complete text (inl ds) = elim (cases_Bool (starts_with nat_eq text (codes "0x"))) [
  | inl e ↦ absurd (not_hex (drop 2 text) (subst (AreDigits is_digit) (starts_front text (codes "0x") e) ds))
  | inr e ↦ rw e (digits_complete is_digit text refl ds)
]
number_complete text (inr (digits, is, ds)) = subst (λ (t : List ℕ). is_number t ≡ true) (sym is) (digits_complete is_hex_digit digits refl ds)

digit_continues : (b : ℕ) → is_digit b ≡ true → continues_number b ≡ true
digit_continues b h = or_left (is_letter b || is_digit b) (eqb b 95) (or_right (is_letter b) (is_digit b) h)

hex_continues : (b : ℕ) → is_hex_digit b ≡ true → continues_number b ≡ true
hex_continues b h = grind (arith, nat_tests)

number_passes : (text : List ℕ) → IsNumber text → Passes continues_number text
number_passes text (inl ds) = digits_pass is_digit continues_number text digit_continues refl ds
number_passes text (inr (digits, is, ds)) = subst (Passes continues_number) (sym is) (refl, (refl, digits_pass is_hex_digit continues_number digits hex_continues refl ds))

pub number_at_sound : (bytes : List ℕ) (n : ℕ) → number_at bytes ≡ Some n → IsNumber (take n bytes) × NotNext continues_number (drop n bytes) × (n ≤ length bytes)
number_at_sound bytes n h =
    let r = run_of continues_number bytes in
    let p = cond_some (is_number (take (prefix_len continues_number bytes) bytes)) (prefix_len continues_number bytes) n h in
    let len : Parts bytes r.front r.rest n = subst (Parts bytes r.front r.rest) p.1 r.parts in
    (subst (λ k. IsNumber (take k bytes)) p.1 (number_sound _ p.0), subst (NotNext continues_number) (Parts-drop bytes r.front r.rest n len) r.stops, Parts-le bytes r.front r.rest n len)

pub number_again : (text rest : List ℕ) → IsNumber text → NotNext continues_number rest → number_at (text ++ rest) ≡ Some (length text)
number_again text rest is next =
    let n : prefix_len continues_number (text ++ rest) ≡ length text = run_all continues_number text rest (number_passes text is) ∙ omega (arith, run_none continues_number rest next) in
    rw (n, take_at text rest (length text) refl, number_complete text is) refl

pub number_first : (text : List ℕ) → IsNumber text → (d : ℕ) × (ds : List ℕ) × (text ≡ d ∷ ds) × (is_digit d ≡ true)
number_first [] (inl h) = absurd h
number_first (d ∷ []) (inl h) = (d, [], refl, h)
number_first (d ∷ e ∷ ds) (inl h) = (d, e ∷ ds, refl, h.0)
number_first text (inr (digits, is, h)) = (48, 120 ∷ digits, is, refl)

-- ---- characters

plain_found : (a b : ℕ) (rest : List ℕ) (c n : ℕ) → (is_plain_in_character a && eqb b 39) ≡ true → ◌≡◌ {A = Option (ℕ × ℕ)} (Some (a, 2)) (Some (c, n)) → IsCharacter (39 ∷ take n (a ∷ b ∷ rest)) c × (n ≤ length (a ∷ b ∷ rest))
plain_found a b rest c n h e =
    let p = and_parts (is_plain_in_character a) (eqb b 39) h in
    let q = some_pair_parts a c 2 n e in
    subst (λ k. IsCharacter (39 ∷ take k (a ∷ b ∷ rest)) c × (k ≤ length (a ∷ b ∷ rest))) q.1
    (subst (λ k. IsCharacter (39 ∷ a ∷ b ∷ []) k) q.0 (inl (p.0, ap (λ (x : ℕ). 39 ∷ a ∷ x ∷ []) (eqb-true b 39 p.1))), omega arith)

escape_found : (a b d : ℕ) (rest : List ℕ) (c n : ℕ) (o : Option ℕ) → escaped b ≡ o → (eqb a 92 && eqb d 39) ≡ true → option_map {U = ℕ × ℕ} (λ e. (e, 3)) o ≡ Some (c, n) → IsCharacter (39 ∷ take n (a ∷ b ∷ d ∷ rest)) c × (n ≤ length (a ∷ b ∷ d ∷ rest))
escape_found a b d rest c n None is h e = absurd cc
escape_found a b d rest c n (Some x) is h e =
    let p = and_parts (eqb a 92) (eqb d 39) h in
    let q = some_pair_parts x c 3 n e in
    subst (λ k. IsCharacter (39 ∷ take k (a ∷ b ∷ d ∷ rest)) c × (k ≤ length (a ∷ b ∷ d ∷ rest))) q.1
    (subst (λ k. IsCharacter (39 ∷ a ∷ b ∷ d ∷ []) k) q.0 (inr (b, is, rw (eqb-true a 92 p.0, eqb-true d 39 p.1) refl)), omega arith)

pub character_sound : (bs : List ℕ) (c n : ℕ) → character_at bs ≡ Some (c, n) → IsCharacter (39 ∷ take n bs) c × (n ≤ length bs)
character_sound [] c n h = absurd cc
character_sound (a ∷ []) c n h = absurd cc
character_sound (a ∷ b ∷ []) c n h = elim (choice (is_plain_in_character a && eqb b 39) (Some (a, 2)) None (Some (c, n)) h) [
  | inl p ↦ plain_found a b [] c n p.0 p.1
  | inr p ↦ absurd cc
]
character_sound (a ∷ b ∷ d ∷ rest) c n h = elim (choice (is_plain_in_character a && eqb b 39) (Some (a, 2)) (cond (eqb a 92 && eqb d 39) (option_map (λ e. (e, 3)) (escaped b)) None) (Some (c, n)) h) [
  | inl p ↦ plain_found a b (d ∷ rest) c n p.0 p.1
  | inr p ↦ elim (choice (eqb a 92 && eqb d 39) (option_map (λ e. (e, 3)) (escaped b)) None (Some (c, n)) p.1) [
    | inl q ↦ escape_found a b d rest c n (escaped b) refl q.0 q.1
    | inr q ↦ absurd cc
  ]
]

plain_again : (c : ℕ) (rest : List ℕ) → is_plain_in_character c ≡ true → character_at (c ∷ 39 ∷ rest) ≡ Some (c, 2)
plain_again c [] plain = rw plain refl
plain_again c (r ∷ rest) plain = rw plain refl

escape_again : (e c : ℕ) (rest : List ℕ) → escaped e ≡ Some c → character_at (92 ∷ e ∷ 39 ∷ rest) ≡ Some (c, 3)
escape_again e c rest esc = ap (option_map (λ x. (x, 3))) esc

pub character_again : (text rest : List ℕ) (c : ℕ) → IsCharacter text c → (inner : List ℕ) × (text ≡ 39 ∷ inner) × (character_at (inner ++ rest) ≡ Some (c, length inner))
character_again text rest c (inl (plain, is)) = (c ∷ 39 ∷ [], is, plain_again c rest plain)
character_again text rest c (inr (e, esc, is)) = (92 ∷ e ∷ 39 ∷ [], is, escape_again e c rest esc)

-- ---- strings

-- bytes that begin with the parts of a string literal and a quote
pub record TextFront (bs : List ℕ) (n : ℕ) : Type 0 where
  pub parts : List Part
  pub inner : List ℕ
  pub cs : List ℕ
  pub rest : List ℕ
  pub are : AreParts parts inner cs
  pub is : bs ≡ inner ++ 34 ∷ rest
  pub len : n ≡ length inner + 1

pub less_one : (o : Option ℕ) (n : ℕ) → more 1 o ≡ Some n → (k : ℕ) × (o ≡ Some k) × (n ≡ 1 + k)
less_one None n e = absurd cc
less_one (Some k) n e = (k, refl, same_Some n (1 + k) (sym e))

some_if_more : (b : Bool) (o : Option ℕ) (n : ℕ) → cond b (more 1 o) None ≡ Some n → (k : ℕ) × (b ≡ true) × (o ≡ Some k) × (n ≡ 1 + k)
some_if_more true o n e = let k = less_one o n e in (k.0, refl, k.1, k.2)
some_if_more false o n e = absurd cc

with_plain : (b : ℕ) (bs : List ℕ) (k : ℕ) → is_plain_in_text b ≡ true → TextFront bs k → TextFront (b ∷ bs) (1 + k)
with_plain b bs k plain r = record {
  parts = Plain b ∷ r.parts;
  inner = b ∷ r.inner;
  cs = b ∷ r.cs;
  rest = r.rest;
  are = (b ∷ [], r.inner, b, r.cs, refl, refl, (plain, refl, refl), r.are);
  is = ap (λ (t : List ℕ). b ∷ t) r.is;
  len = omega (arith, r.len);
}

with_escape : (e c : ℕ) (bs : List ℕ) (k : ℕ) → escaped e ≡ Some c → TextFront bs k → TextFront (92 ∷ e ∷ bs) (1 + (1 + k))
with_escape e c bs k esc r = record {
  parts = Escape e ∷ r.parts;
  inner = 92 ∷ e ∷ r.inner;
  cs = c ∷ r.cs;
  rest = r.rest;
  are = (92 ∷ e ∷ [], r.inner, c, r.cs, refl, refl, (esc, refl), r.are);
  is = ap (λ (t : List ℕ). 92 ∷ e ∷ t) r.is;
  len = omega (arith, r.len);
}

pub some_is_some : (o : Option ℕ) → is_some o ≡ true → (c : ℕ) × (o ≡ Some c)
some_is_some None h = absurd (false≢true h)
some_is_some (Some c) h = (c, refl)

ended : (b : ℕ) (bs : List ℕ) (n : ℕ) → eqb b 34 ≡ true → Some 1 ≡ Some n → TextFront (b ∷ bs) n
ended b bs n e len = record { parts = []; inner = []; cs = []; rest = bs; are = (refl, refl); is = ap (λ (x : ℕ). x ∷ bs) (eqb-true b 34 e); len = same_Some n 1 (sym len) }

text_front : (bs : List ℕ) (n : ℕ) → text_len false bs ≡ Some n → TextFront bs n
text_front [] n h = absurd cc
text_front (b ∷ []) n h = elim (choice (eqb b 34) (Some 1) (cond (eqb b 92) None (cond (is_plain_in_text b) None None)) (Some n) h) [
  | inl p ↦ ended b [] n p.0 p.1
  | inr p ↦ elim (choice (eqb b 92) None (cond (is_plain_in_text b) None None) (Some n) p.1) [
    | inl q ↦ absurd cc
    | inr q ↦ elim (choice (is_plain_in_text b) None None (Some n) q.1) [ inl r ↦ absurd cc | inr r ↦ absurd cc ]
  ]
]
text_front (b ∷ e ∷ bs) n h = elim (choice (eqb b 34) (Some 1) (cond (eqb b 92) (more 1 (text_len true (e ∷ bs))) (cond (is_plain_in_text b) (more 1 (text_len false (e ∷ bs))) None)) (Some n) h) [
  | inl p ↦ ended b (e ∷ bs) n p.0 p.1
  | inr p ↦ elim (choice (eqb b 92) (more 1 (text_len true (e ∷ bs))) (cond (is_plain_in_text b) (more 1 (text_len false (e ∷ bs))) None) (Some n) p.1) [
    | inl q ↦
        let k = less_one (text_len true (e ∷ bs)) n q.1 in
        let r = some_if_more (is_some (escaped e)) (text_len false bs) k.0 k.1 in
        let c = some_is_some (escaped e) r.1 in
        let t = with_escape e c.0 bs r.0 c.1 (text_front bs r.0 r.2) in
        subst (λ x. TextFront (x ∷ e ∷ bs) n) (sym (eqb-true b 92 q.0)) (subst (TextFront (92 ∷ e ∷ bs)) (sym (k.2 ∙ ap (λ x. 1 + x) r.3)) t)
    | inr q ↦ elim (choice (is_plain_in_text b) (more 1 (text_len false (e ∷ bs))) None (Some n) q.1) [
      | inl r ↦ let k = less_one (text_len false (e ∷ bs)) n r.1 in subst (TextFront (b ∷ e ∷ bs)) (sym k.2) (with_plain b (e ∷ bs) k.0 r.0 (text_front (e ∷ bs) k.0 k.1))
      | inr r ↦ absurd cc
    ]
  ]
]

pub text_sound : (bs : List ℕ) (n : ℕ) → text_len false bs ≡ Some n → ((cs : List ℕ) × IsText (34 ∷ take n bs) cs) × (n ≤ length bs)
text_sound bs n h =
    let r = text_front bs n h in
    let parts : Parts bs (r.inner ++ 34 ∷ []) r.rest n = record { is = r.is ∙ sym (append_assoc r.inner (34 ∷ []) r.rest); len = omega (arith, length-append r.inner (34 ∷ []), r.len) } in
    ((r.cs, (r.parts, r.inner, ap (λ (t : List ℕ). 34 ∷ t) (sym (Parts-take bs (r.inner ++ 34 ∷ []) r.rest n parts)), r.are)), Parts-le bs (r.inner ++ 34 ∷ []) r.rest n parts)

pub plain_apart : (b : ℕ) → is_plain_in_text b ≡ true → (eqb b 34 ≡ false) × (eqb b 92 ≡ false)
plain_apart b h =
    let p = and_parts _ (not (eqb b 34)) h in
    (not-true _ p.1, not-true _ (and_parts _ (not (eqb b 92)) p.0).1)

text_parts : (parts : List Part) (inner cs rest : List ℕ) → AreParts parts inner cs → text_len false (inner ++ 34 ∷ rest) ≡ Some (length inner + 1)
text_parts [] inner cs rest h = subst (λ (t : List ℕ). text_len false (t ++ 34 ∷ rest) ≡ Some (length t + 1)) (sym h.0) refl
text_parts (Plain b ∷ parts) inner cs rest (front, after, c, others, is, _, (plain, front_is, _), h) =
    let e : inner ≡ b ∷ after = is ∙ ap (λ (t : List ℕ). t ++ after) front_is in
    let a = plain_apart b plain in
    subst (λ (t : List ℕ). text_len false (t ++ 34 ∷ rest) ≡ Some (length t + 1)) (sym e) (rw (plain, a.0, a.1, text_parts parts after others rest h) (ap Some (omega arith)))
text_parts (Escape e ∷ parts) inner cs rest (front, after, c, others, is, _, (esc, front_is), h) =
    let i : inner ≡ 92 ∷ e ∷ after = is ∙ ap (λ (t : List ℕ). t ++ after) front_is in
    subst (λ (t : List ℕ). text_len false (t ++ 34 ∷ rest) ≡ Some (length t + 1)) (sym i) (rw (esc, text_parts parts after others rest h) (ap Some (omega arith)))

pub text_again : (text rest cs : List ℕ) → IsText text cs → (inner : List ℕ) × (text ≡ 34 ∷ inner) × (text_len false (inner ++ rest) ≡ Some (length inner))
text_again text rest cs (parts, inner, is, are) =
    (inner ++ 34 ∷ [], is, ap (text_len false) (append_assoc inner (34 ∷ []) rest) ∙ text_parts parts inner cs rest are ∙ ap Some (sym (length-append inner (34 ∷ []))))
