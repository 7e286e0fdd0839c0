-- Lexemes: what is found at the front is one, and no longer one stands there.
use Rattle.std.proofs.Common.{◌≡◌, ℕ, zero, suc, ◌+◌, ◌<◌, ◌≤◌, inl, inr, true, false, cond, eqb, List, [], ◌∷◌, ◌++◌, length, take, drop, Option, Some, None, refl, sym, ap, subst, ◌∙◌, arith}
use Rattle.std.specs.Prelude.{nat_eq, ◌&&◌, not, option_map}
use Rattle.std.specs.List.{prefix_len}
use Rattle.std.proofs.lemmas.Bool.{and_parts, not-true, eqb-true}
use Rattle.std.proofs.lemmas.Bool.Decides.{nat_tests}
use Rattle.std.proofs.lemmas.Option.{some_pair_parts}
use Rattle.df_lemmas.proofs.Truths.{choice}
use Rattle.df_tok.specs.Byte.{is_digit, is_blank, begins_identifier, continues_identifier, continues_number}
use Rattle.df_tok.specs.declared.sign.Sign.{Sign}
use Rattle.df_tok.specs.declared.sign.Sign.TheVariants.{NotIn}
use Rattle.df_tok.specs.declared.scan.Form.{Form}
use Rattle.df_tok.specs.declared.scan.Form.TheVariants as forms
use Rattle.df_tok.specs.Sign.{sign_text}
use Rattle.df_tok.specs.Lexeme.{NotNext, IsIdentifier, IsNumber, IsCharacter, IsText, IsLexeme, identifier, number, character, string, sign}
use Rattle.df_tok.specs.Scanned.{HasForm}
use Rattle.df_tok.specs.Scanning.{number_at, character_at, text_len, sign_at, sign_lexeme, lexeme_at}
use Rattle.df_tok.proofs.Lists.{Parts, Parts-take, Parts-le, Passes, run_of, run_all}
use Rattle.df_tok.proofs.Literals.{number_at_sound, number_again, number_first, character_sound, character_again, text_sound, text_again}
use Rattle.df_tok.proofs.Signs.{same_sign, sign_sound, sign_furthest, begins_sign, sign_begins}

-- what may stand behind a lexeme of a form
abbrev pub Follows : Form → List ℕ → Type 0
Follows forms.Identifier rest = Unit {0}
Follows forms.Number rest = NotNext continues_number rest
Follows (forms.Character c) rest = Unit {0}
Follows forms.Text rest = Unit {0}
Follows (forms.Sign s) rest = s ≡ NotIn → NotNext continues_identifier rest

pub lexeme_of : (form : Form) (text rest : List ℕ) → HasForm form text → Follows form rest → IsLexeme text rest
lexeme_of forms.Identifier text rest h f = identifier h
lexeme_of forms.Number text rest h f = number h f
lexeme_of (forms.Character c) text rest h f = character c h
lexeme_of forms.Text text rest h f = string h.0 h.1
lexeme_of (forms.Sign s) text rest h f = sign (s, h, f)

pub form_of : (text rest : List ℕ) → IsLexeme text rest → (form : Form) × HasForm form text × Follows form rest
form_of text rest (identifier h) = (forms.Identifier, h, tt)
form_of text rest (number h f) = (forms.Number, h, f)
form_of text rest (character c h) = (forms.Character c, h, tt)
form_of text rest (string cs h) = (forms.Text, (cs, h), tt)
form_of text rest (sign (s, h, f)) = (forms.Sign s, h, f)

-- ---- what is found

pub record LexemeFront (bytes : List ℕ) (form : Form) (n : ℕ) : Type 0 where
  pub form_is : HasForm form (take n bytes)
  pub follows : Follows form (drop n bytes)
  pub within : n ≤ length bytes
  pub some : 0 < n

found_is : (bytes : List ℕ) (f g : Form) (m n : ℕ) → ◌≡◌ {A = Option (Form × ℕ)} (Some (f, m)) (Some (g, n)) → LexemeFront bytes f m → LexemeFront bytes g n
found_is bytes f g m n e r =
    let p = some_pair_parts f g m n e in
    subst (LexemeFront bytes g) p.1 (subst (λ x. LexemeFront bytes x m) p.0 r)

identifier_front : (b : ℕ) (bs : List ℕ) → begins_identifier b ≡ true → LexemeFront (b ∷ bs) forms.Identifier (1 + prefix_len continues_identifier bs)
identifier_front b bs h =
    let r = run_of continues_identifier bs in
    let k = prefix_len continues_identifier bs in
    let e : suc k ≡ 1 + k = omega arith in
    subst (LexemeFront (b ∷ bs) forms.Identifier) e (record {
      form_is = (h, subst (Passes continues_identifier) (Parts-take bs r.front r.rest k r.parts) r.passes);
      follows = tt;
      within = omega (arith, Parts-le bs r.front r.rest k r.parts);
      some = omega arith;
    })

abbrev Sound : List ℕ → Option (Form × ℕ) → Type 0
Sound bytes found = (form : Form) (n : ℕ) → found ≡ Some (form, n) → LexemeFront bytes form n

number_front : (b : ℕ) (bs : List ℕ) (o : Option ℕ) → number_at (b ∷ bs) ≡ o → Sound (b ∷ bs) (option_map (λ n. (forms.Number, n)) o)
number_front b bs None is form n e = absurd cc
number_front b bs (Some k) is form n e =
    let p = number_at_sound (b ∷ bs) k is in
    found_is (b ∷ bs) forms.Number form k n e (record { form_is = p.0; follows = p.1; within = p.2; some = positive k p.0 })
  where
    positive : (k : ℕ) → IsNumber (take k (b ∷ bs)) → 0 < k
    positive zero h = let p = number_first [] h in absurd (omega (arith, ap length p.2))
    positive (suc k) h = omega arith

character_front : (b : ℕ) (bs : List ℕ) (o : Option (ℕ × ℕ)) → b ≡ 39 → character_at bs ≡ o → Sound (b ∷ bs) (option_map (λ c. (forms.Character c.0, 1 + c.1)) o)
character_front b bs None first is form n e = absurd cc
character_front b bs (Some c) first is form n e =
    let p = character_sound bs c.0 c.1 is in
    let k : suc c.1 ≡ 1 + c.1 = omega arith in
    found_is (b ∷ bs) (forms.Character c.0) form (1 + c.1) n e (subst (LexemeFront (b ∷ bs) (forms.Character c.0)) k (record {
      form_is = subst (λ x. IsCharacter (x ∷ take c.1 bs) c.0) (sym first) p.0;
      follows = tt;
      within = omega (arith, p.1);
      some = omega arith;
    }))

text_front : (b : ℕ) (bs : List ℕ) (o : Option ℕ) → b ≡ 34 → text_len false bs ≡ o → Sound (b ∷ bs) (option_map (λ n. (forms.Text, 1 + n)) o)
text_front b bs None first is form n e = absurd cc
text_front b bs (Some i) first is form n e =
    let p = text_sound bs i is in
    let k : suc i ≡ 1 + i = omega arith in
    found_is (b ∷ bs) forms.Text form (1 + i) n e (subst (LexemeFront (b ∷ bs) forms.Text) k (record {
      form_is = subst (λ x. (cs : List ℕ) × IsText (x ∷ take i bs) cs) (sym first) p.0;
      follows = tt;
      within = omega (arith, p.1);
      some = omega arith;
    }))

sign_front : (bytes : List ℕ) (o : Option Sign) → sign_at bytes ≡ o → Sound bytes (sign_lexeme o)
sign_front bytes None is form n e = absurd cc
sign_front bytes (Some s) is form n e =
    let p = sign_sound bytes s is in
    let k = length (sign_text s) in
    let parts : Parts bytes (sign_text s) (drop k bytes) k = record { is = p.0; len = refl } in
    found_is bytes (forms.Sign s) form k n e (record {
      form_is = sym (Parts-take bytes (sign_text s) (drop k bytes) k parts);
      follows = λ x. follows_is p.1.0 s (drop k bytes) (sym (same_sign s p.1.0 p.1.1)) x p.1.2;
      within = Parts-le bytes (sign_text s) (drop k bytes) k parts;
      some = nonempty (sign_text s) (sign_begins s);
    })
  where
    follows_is : (a b : Sign) (rest : List ℕ) → a ≡ b → b ≡ NotIn → (a ≡ NotIn → NotNext continues_identifier rest) → NotNext continues_identifier rest
    follows_is a b rest e x f = f (e ∙ x)

    nonempty : (text : List ℕ) → begins_sign text ≡ true → 0 < length text
    nonempty [] h = absurd cc
    nonempty (b ∷ bs) h = omega arith

pub lexeme_sound : (bytes : List ℕ) → Sound bytes (lexeme_at bytes)
lexeme_sound [] form n e = absurd cc
lexeme_sound (b ∷ bs) form n e =
    let signs = sign_lexeme (sign_at (b ∷ bs)) in
    let texts = cond (eqb b 34) (option_map {U = Form × ℕ} (λ n. (forms.Text, 1 + n)) (text_len false bs)) signs in
    let characters = cond (eqb b 39) (option_map {U = Form × ℕ} (λ c. (forms.Character c.0, 1 + c.1)) (character_at bs)) texts in
    let numbers = cond (is_digit b) (option_map {U = Form × ℕ} (λ n. (forms.Number, n)) (number_at (b ∷ bs))) characters in
    elim (choice (begins_identifier b) (Some (forms.Identifier, 1 + prefix_len continues_identifier bs)) numbers (Some (form, n)) e) [
      | inl p ↦ found_is (b ∷ bs) forms.Identifier form (1 + prefix_len continues_identifier bs) n p.1 (identifier_front b bs p.0)
      | inr p ↦ elim (choice (is_digit b) (option_map {U = Form × ℕ} (λ n. (forms.Number, n)) (number_at (b ∷ bs))) characters (Some (form, n)) p.1) [
        | inl q ↦ number_front b bs (number_at (b ∷ bs)) refl form n q.1
        | inr q ↦ elim (choice (eqb b 39) (option_map {U = Form × ℕ} (λ c. (forms.Character c.0, 1 + c.1)) (character_at bs)) texts (Some (form, n)) q.1) [
          | inl r ↦ character_front b bs (character_at bs) (eqb-true b 39 r.0) refl form n r.1
          | inr r ↦ elim (choice (eqb b 34) (option_map {U = Form × ℕ} (λ n. (forms.Text, 1 + n)) (text_len false bs)) signs (Some (form, n)) r.1) [
            | inl t ↦ text_front b bs (text_len false bs) (eqb-true b 34 t.0) refl form n t.1
            | inr t ↦ sign_front (b ∷ bs) (sign_at (b ∷ bs)) refl form n t.1
          ]
        ]
      ]
    ]

-- ---- no longer one

-- what is found is at least so long
pub record Furthest (bytes : List ℕ) (len : ℕ) : Type 0 where
  pub form : Form
  pub n : ℕ
  pub found : lexeme_at bytes ≡ Some (form, n)
  pub long : len ≤ n

pub digit_is_none : (b : ℕ) → is_digit b ≡ true → begins_identifier b ≡ false
digit_is_none b h = grind (arith, nat_tests)

number_case : (d : ℕ) (ds : List ℕ) → is_digit d ≡ true → lexeme_at (d ∷ ds) ≡ option_map (λ n. (forms.Number, n)) (number_at (d ∷ ds))
number_case d ds h = rw (digit_is_none d h, h) refl

sign_case : (bytes : List ℕ) → begins_sign bytes ≡ true → lexeme_at bytes ≡ sign_lexeme (sign_at bytes)
sign_case [] h = absurd cc
sign_case (b ∷ bs) h =
    let p = and_parts (not (begins_identifier b) && not (is_digit b) && not (nat_eq b 39) && not (nat_eq b 34)) (not (is_blank b)) h in
    let q = and_parts (not (begins_identifier b) && not (is_digit b) && not (nat_eq b 39)) (not (nat_eq b 34)) p.0 in
    let r = and_parts (not (begins_identifier b) && not (is_digit b)) (not (nat_eq b 39)) q.0 in
    let s = and_parts (not (begins_identifier b)) (not (is_digit b)) r.0 in
    rw (not-true (begins_identifier b) s.0, not-true (is_digit b) s.1, not-true (nat_eq b 39) r.1, not-true (nat_eq b 34) q.1) refl

pub sign_goes_on : (text rest : List ℕ) → begins_sign text ≡ true → begins_sign (text ++ rest) ≡ true
sign_goes_on [] rest h = absurd cc
sign_goes_on (b ∷ bs) rest h = h

identifier_furthest : (text rest : List ℕ) → IsIdentifier text → Furthest (text ++ rest) (length text)
identifier_furthest [] rest h = absurd h
identifier_furthest (b ∷ bs) rest h = record {
  form = forms.Identifier;
  n = 1 + prefix_len continues_identifier (bs ++ rest);
  found = rw h.0 refl;
  long = omega (arith, run_all continues_identifier bs rest h.1);
}

pub furthest : (text rest : List ℕ) → IsLexeme text rest → Furthest (text ++ rest) (length text)
furthest text rest (identifier h) = identifier_furthest text rest h
furthest text rest (number h f) =
    let p = number_first text h in
    let e : lexeme_at (text ++ rest) ≡ option_map (λ n. (forms.Number, n)) (number_at (text ++ rest)) = subst (λ (t : List ℕ). lexeme_at (t ++ rest) ≡ option_map (λ n. (forms.Number, n)) (number_at (t ++ rest))) (sym p.2) (number_case p.0 (p.1 ++ rest) p.3) in
    record { form = forms.Number; n = length text; found = e ∙ ap (option_map (λ n. (forms.Number, n))) (number_again text rest h f); long = omega arith }
furthest text rest (character c h) =
    let p = character_again text rest c h in
    record { form = forms.Character c; n = 1 + length p.0; found = ap (λ (t : List ℕ). lexeme_at (t ++ rest)) p.1 ∙ ap (option_map (λ x. (forms.Character x.0, 1 + x.1))) p.2; long = omega (arith, ap length p.1) }
furthest text rest (string cs h) =
    let p = text_again text rest cs h in
    record { form = forms.Text; n = 1 + length p.0; found = ap (λ (t : List ℕ). lexeme_at (t ++ rest)) p.1 ∙ ap (option_map (λ x. (forms.Text, 1 + x))) p.2; long = omega (arith, ap length p.1) }
furthest text rest (sign h) =
    let r = sign_furthest text rest h in
    let b : begins_sign text ≡ true = subst (λ (t : List ℕ). begins_sign t ≡ true) (sym h.1) (sign_begins h.0) in
    record { form = forms.Sign r.sign; n = length (sign_text r.sign); found = sign_case (text ++ rest) (sign_goes_on text rest b) ∙ ap sign_lexeme r.found; long = r.long }
