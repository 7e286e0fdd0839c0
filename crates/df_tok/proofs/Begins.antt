-- How far the rest can be continued to a lexeme, where none stands.
use Rattle.std.proofs.Common.{◌≡◌, ◌≢◌, ℕ, suc, ◌+◌, ◌≤◌, ◌⊎◌, inl, inr, Bool, true, false, cond, eqb, List, [], ◌∷◌, ◌++◌, length, take, drop, Some, refl, sym, ap, subst, ◌∙◌, append_assoc, arith}
use Rattle.std.specs.Prelude.{nat_eq, ◌&&◌, codes, is_some}
use Rattle.std.specs.List.{starts_with}
use Rattle.std.proofs.lemmas.Bool.{cases_lt, cond-true, eqb-true, cases_Bool, false≢true}
use Rattle.std.proofs.lemmas.List.{append-nil, length-append, take-append-drop, length-take, take_all, nil_from_length}
use Rattle.df_lemmas.proofs.Truths.{choice}
use Rattle.df_lemmas.proofs.Lists.{head_same, tail_same}
use Rattle.df_tok.specs.Byte.{is_digit, is_hex_digit, is_plain_in_character, is_plain_in_text, escaped}
use Rattle.df_tok.specs.declared.sign.Sign.{Sign}
use Rattle.df_tok.specs.declared.sign.Sign.TheVariants as all
use Rattle.df_tok.specs.Sign.{sign_text}
use Rattle.df_tok.specs.Lexeme.{AreDigits, IsNumber, IsCharacter, Part, Plain, Escape, AreParts, IsText, IsSign, IsLexeme, identifier, number, character, string, sign}
use Rattle.df_tok.specs.Fault.{IsBegun, Stops}
use Rattle.df_tok.specs.Scanning.{are_digits, text_len, digits_begun, number_begun, escape_begun, character_begun, text_begun, begun_at}
use Rattle.df_tok.proofs.Lists.{starts_front}
use Rattle.df_tok.proofs.Literals.{digits_sound, digits_complete, number_first, text_sound, plain_apart, some_is_some}

abbrev pub NoLexeme : List ℕ → Type 0
NoLexeme rest = (text more : List ℕ) → rest ≡ text ++ more → ¬ IsLexeme text more

-- ---- digits

-- what is begun depends on no later byte
digits_local : (digit : ℕ → Bool) (before : Bool) (front x y : List ℕ) → length front ≤ digits_begun digit before (front ++ x) → length front ≤ digits_begun digit before (front ++ y)
digits_local digit before [] x y h = omega arith
digits_local digit before (b ∷ front) x y h = elim (cases_Bool (digit b)) [
  | inl p ↦
      let g = rw p at h in
      let r = digits_local digit true front x y (omega arith) in
      rw p (omega (arith, r))
  | inr p ↦ elim (cases_Bool (before && eqb b 95)) [
    | inl q ↦
        let g = rw (p, q) at h in
        let r = digits_local digit false front x y (omega arith) in
        rw (p, q) (omega (arith, r))
    | inr q ↦ let g = rw (p, q) at h in absurd (omega arith)
  ]
]

-- digits are begun to their end
digits_whole : (digit : ℕ → Bool) (before : Bool) (bs x : List ℕ) → are_digits digit before bs ≡ true → length bs ≤ digits_begun digit before (bs ++ x)
digits_whole digit before [] x h = omega arith
digits_whole digit before (b ∷ bs) x h = elim (choice (digit b) (are_digits digit true bs) (cond (before && eqb b 95) (are_digits digit false bs) false) true h) [
  | inl p ↦ let r = digits_whole digit true bs x p.1 in rw p.0 (omega (arith, r))
  | inr p ↦ elim (choice (before && eqb b 95) (are_digits digit false bs) false true p.1) [
    | inl q ↦ let r = digits_whole digit false bs x q.1 in rw (p.0, q.0) (omega (arith, r))
    | inr q ↦ absurd (false≢true q.1)
  ]
]

take_one : (k b : ℕ) (bs : List ℕ) → take (1 + k) (b ∷ bs) ≡ b ∷ take k bs
take_one k b bs = let e : suc k ≡ 1 + k = omega arith in sym (ap (λ n. take n (b ∷ bs)) e)

-- with one more digit they are digits
digits_can : (digit : ℕ → Bool) (before : Bool) (bs : List ℕ) → digit 48 ≡ true → are_digits digit before (take (digits_begun digit before bs) bs ++ 48 ∷ []) ≡ true
digits_can digit before [] h = rw h refl
digits_can digit before (b ∷ bs) h = elim (cases_Bool (digit b)) [
  | inl p ↦ rw (p, take_one (digits_begun digit true bs) b bs, p) (digits_can digit true bs h)
  | inr p ↦ elim (cases_Bool (before && eqb b 95)) [
    | inl q ↦ rw (p, q, take_one (digits_begun digit false bs) b bs, p, q) (digits_can digit false bs h)
    | inr q ↦ rw (p, q, h) refl
  ]
]

number_can : (bytes : List ℕ) → IsBegun (take (number_begun bytes) bytes)
number_can bytes = elim (cases_Bool (starts_with nat_eq bytes (codes "0x"))) [
  | inl e ↦
      let front : bytes ≡ 48 ∷ 120 ∷ drop 2 bytes = starts_front bytes (codes "0x") e in
      let k = digits_begun is_hex_digit false (drop 2 bytes) in
      let taken : take (2 + k) bytes ≡ 48 ∷ 120 ∷ take k (drop 2 bytes) = let two : suc (suc k) ≡ 2 + k = omega arith in ap (take (2 + k)) front ∙ sym (ap (λ n. take n (48 ∷ 120 ∷ drop 2 bytes)) two) in
      rw (e, taken) (48 ∷ [], number (inr (take k (drop 2 bytes) ++ 48 ∷ [], refl, digits_sound is_hex_digit _ (digits_can is_hex_digit false (drop 2 bytes) refl))) tt)
  | inr e ↦ rw e (48 ∷ [], number (inl (digits_sound is_digit _ (digits_can is_digit false bytes refl))) tt)
]

digits_longest : (digit : ℕ → Bool) (front more after : List ℕ) → digit 95 ≡ false → AreDigits digit (front ++ more) → length front ≤ digits_begun digit false (front ++ after)
digits_longest digit front more after other h =
    let whole = digits_whole digit false (front ++ more) [] (digits_complete digit (front ++ more) other h) in
    let long : length front ≤ digits_begun digit false (front ++ (more ++ [])) = subst (λ (t : List ℕ). length front ≤ digits_begun digit false t) (append_assoc front more []) (omega (arith, whole, length-append front more)) in
    digits_local digit false front (more ++ []) after long

number_longest : (front more after : List ℕ) → IsNumber (front ++ more) → length front ≤ number_begun (front ++ after)
number_longest front more after (inl ds) =
    let r = digits_longest is_digit front more after refl ds in
    elim (cases_Bool (starts_with nat_eq (front ++ after) (codes "0x"))) [
      | inl e ↦
          let is : front ++ after ≡ 48 ∷ 120 ∷ drop 2 (front ++ after) = starts_front (front ++ after) (codes "0x") e in
          let one : digits_begun is_digit false (front ++ after) ≡ 1 = ap (digits_begun is_digit false) is in
          rw e (omega (arith, r, one))
      | inr e ↦ rw e r
    ]
number_longest [] more after (inr h) = omega arith
number_longest (a ∷ []) more after (inr (digits, is, ds)) =
    let zero_is : a ≡ 48 = head_same a 48 more (120 ∷ digits) is in
    elim (cases_Bool (starts_with nat_eq (a ∷ after) (codes "0x"))) [
      | inl e ↦ rw e (omega arith)
      | inr e ↦ let d : is_digit a ≡ true = ap is_digit zero_is in rw (e, d) (omega arith)
    ]
number_longest (a ∷ b ∷ front) more after (inr (digits, is, ds)) =
    let zero_is : a ≡ 48 = head_same a 48 (b ∷ (front ++ more)) (120 ∷ digits) is in
    let tail : b ∷ (front ++ more) ≡ 120 ∷ digits = tail_same a 48 (b ∷ (front ++ more)) (120 ∷ digits) is in
    let x_is : b ≡ 120 = head_same b 120 (front ++ more) digits tail in
    let d : AreDigits is_hex_digit (front ++ more) = subst (AreDigits is_hex_digit) (sym (tail_same b 120 (front ++ more) digits tail)) ds in
    let r = digits_longest is_hex_digit front more after refl d in
    let both : suc (suc (length front)) ≤ number_begun (48 ∷ 120 ∷ (front ++ after)) = omega (arith, r) in
    subst (λ (t : List ℕ). suc (suc (length front)) ≤ number_begun t) (ap (λ (x : ℕ). 48 ∷ x ∷ (front ++ after)) (sym x_is) ∙ ap (λ (x : ℕ). x ∷ b ∷ (front ++ after)) (sym zero_is)) both

-- ---- characters

character_can : (bs : List ℕ) → IsBegun (39 ∷ take (character_begun bs) bs)
character_can [] = (97 ∷ 39 ∷ [], character 97 (inl (refl, refl)))
character_can (a ∷ rest) = elim (cases_Bool (is_plain_in_character a)) [
  | inl p ↦ rw p (39 ∷ [], character a (inl (p, refl)))
  | inr p ↦ elim (cases_Bool (eqb a 92)) [
    | inl q ↦ rw (p, q, take_one (escape_begun rest) a rest, eqb-true a 92 q) (escape rest)
    | inr q ↦ rw (p, q) (97 ∷ 39 ∷ [], character 97 (inl (refl, refl)))
  ]
]
  where
    escape : (rest : List ℕ) → IsBegun (39 ∷ 92 ∷ take (escape_begun rest) rest)
    escape [] = (110 ∷ 39 ∷ [], character 10 (inr (110, refl, refl)))
    escape (e ∷ rest) = elim (cases_Bool (is_some (escaped e))) [
      | inl q ↦ let c = some_is_some (escaped e) q in rw q (39 ∷ [], character c.0 (inr (e, c.1, refl)))
      | inr q ↦ rw q (110 ∷ 39 ∷ [], character 10 (inr (110, refl, refl)))
    ]

no_more : (front more : List ℕ) (n : ℕ) → length (front ++ more) ≡ n → n ≤ length front → more ≡ []
no_more front more n e le = nil_from_length more (omega (arith, length-append front more, e, le))

character_longest : (front more after : List ℕ) (c : ℕ) → IsCharacter (39 ∷ (front ++ more)) c → more ≢ [] → length front ≤ character_begun (front ++ after)
character_longest [] more after c h some = omega arith
character_longest (a ∷ []) more after c (inl (plain, is)) some =
    let e : a ≡ c = head_same a c more (39 ∷ []) (tail_same 39 39 (a ∷ more) (c ∷ 39 ∷ []) is) in
    let p : is_plain_in_character a ≡ true = ap is_plain_in_character e ∙ plain in
    rw p (omega arith)
character_longest (a ∷ b ∷ front) more after c (inl (plain, is)) some =
    absurd (some (no_more (a ∷ b ∷ front) more 2 (ap length (tail_same 39 39 (a ∷ b ∷ (front ++ more)) (c ∷ 39 ∷ []) is)) (omega arith)))
character_longest (a ∷ []) more after c (inr (e, esc, is)) some =
    let first : a ≡ 92 = head_same a 92 more (e ∷ 39 ∷ []) (tail_same 39 39 (a ∷ more) (92 ∷ e ∷ 39 ∷ []) is) in
    let n : 1 ≤ character_begun (92 ∷ after) = omega arith in
    subst (λ x. 1 ≤ character_begun (x ∷ after)) (sym first) n
character_longest (a ∷ b ∷ []) more after c (inr (e, esc, is)) some =
    let tail : a ∷ b ∷ more ≡ 92 ∷ e ∷ 39 ∷ [] = tail_same 39 39 (a ∷ b ∷ more) (92 ∷ e ∷ 39 ∷ []) is in
    let first : a ≡ 92 = head_same a 92 (b ∷ more) (e ∷ 39 ∷ []) tail in
    let second : b ≡ e = head_same b e more (39 ∷ []) (tail_same a 92 (b ∷ more) (e ∷ 39 ∷ []) tail) in
    let found : is_some (escaped b) ≡ true = ap (λ x. is_some (escaped x)) second ∙ ap is_some esc in
    let n : 2 ≤ character_begun (92 ∷ b ∷ after) = rw found (omega arith) in
    subst (λ x. 2 ≤ character_begun (x ∷ b ∷ after)) (sym first) n
character_longest (a ∷ b ∷ d ∷ front) more after c (inr (e, esc, is)) some =
    absurd (some (no_more (a ∷ b ∷ d ∷ front) more 3 (ap length (tail_same 39 39 (a ∷ b ∷ d ∷ (front ++ more)) (92 ∷ e ∷ 39 ∷ []) is)) (omega arith)))

-- ---- strings

text_local : (before : Bool) (front x y : List ℕ) → length front ≤ text_begun before (front ++ x) → length front ≤ text_begun before (front ++ y)
text_local before [] x y h = omega arith
text_local true (b ∷ front) x y h = elim (cases_Bool (is_some (escaped b))) [
  | inl p ↦ let g = rw p at h in let r = text_local false front x y (omega arith) in rw p (omega (arith, r))
  | inr p ↦ let g = rw p at h in absurd (omega arith)
]
text_local false (b ∷ front) x y h = elim (cases_Bool (eqb b 92)) [
  | inl p ↦ let g = rw p at h in let r = text_local true front x y (omega arith) in rw p (omega (arith, r))
  | inr p ↦ elim (cases_Bool (is_plain_in_text b)) [
    | inl q ↦ let g = rw (q, p) at h in let r = text_local false front x y (omega arith) in rw (q, p) (omega (arith, r))
    | inr q ↦ let g = rw (q, p) at h in absurd (omega arith)
  ]
]

parts_begun : (parts : List Part) (inner cs x : List ℕ) → AreParts parts inner cs → length inner ≤ text_begun false (inner ++ x)
parts_begun [] inner cs x h = omega (arith, ap length h.0)
parts_begun (Plain b ∷ parts) inner cs x (front, after, c, others, is, _, (plain, front_is, _), h) =
    let e : inner ≡ b ∷ after = is ∙ ap (λ (t : List ℕ). t ++ after) front_is in
    let a = plain_apart b plain in
    let r = parts_begun parts after others x h in
    let n : suc (length after) ≤ text_begun false (b ∷ (after ++ x)) = rw (plain, a.1) (omega (arith, r)) in
    subst (λ (t : List ℕ). length t ≤ text_begun false (t ++ x)) (sym e) n
parts_begun (Escape e ∷ parts) inner cs x (front, after, c, others, is, _, (esc, front_is), h) =
    let i : inner ≡ 92 ∷ e ∷ after = is ∙ ap (λ (t : List ℕ). t ++ after) front_is in
    let r = parts_begun parts after others x h in
    let found : is_some (escaped e) ≡ true = ap is_some esc in
    let n : suc (suc (length after)) ≤ text_begun false (92 ∷ e ∷ (after ++ x)) = rw found (omega (arith, r)) in
    subst (λ (t : List ℕ). length t ≤ text_begun false (t ++ x)) (sym i) n

text_longest : (front more after cs : List ℕ) → IsText (34 ∷ (front ++ more)) cs → more ≢ [] → length front ≤ text_begun false (front ++ after)
text_longest front more after cs (parts, inner, is, are) some =
    let e : front ++ more ≡ inner ++ 34 ∷ [] = tail_same 34 34 (front ++ more) (inner ++ 34 ∷ []) is in
    let n = parts_begun parts inner cs (34 ∷ []) are in
    let shorter : length front ≤ length inner = elim (cases_lt (length inner) (length front)) [
      | inl lt ↦ absurd (some (nil_from_length more (omega (arith, ap length e, length-append front more, length-append inner (34 ∷ [])))))
      | inr le ↦ le
    ] in
    let m : length front ≤ text_begun false (front ++ more) = subst (λ (t : List ℕ). length front ≤ text_begun false t) (sym e) (omega (arith, n, shorter)) in
    text_local false front more after m

-- with an end it is a string
record CanEnd (before : Bool) (front : List ℕ) : Type 0 where
  more : List ℕ
  ends : text_len before (front ++ more) ≡ Some (length (front ++ more))

end_now : (before : Bool) → CanEnd before []
end_now true = record { more = 110 ∷ 34 ∷ []; ends = refl }
end_now false = record { more = 34 ∷ []; ends = refl }

text_can : (before : Bool) (bs : List ℕ) → CanEnd before (take (text_begun before bs) bs)
text_can before [] = end_now before
text_can true (b ∷ bs) = elim (cases_Bool (is_some (escaped b))) [
  | inl p ↦
      let r = text_can false bs in
      rw (p, take_one (text_begun false bs) b bs) (record { more = r.more; ends = rw (p, r.ends) (ap Some (omega arith)) })
  | inr p ↦ rw p (end_now true)
]
text_can false (b ∷ bs) = elim (cases_Bool (eqb b 92)) [
  | inl p ↦
      let r = text_can true bs in
      let q : eqb b 34 ≡ false = ap (λ x. eqb x 34) (eqb-true b 92 p) in
      rw (p, take_one (text_begun true bs) b bs) (record { more = r.more; ends = rw (q, p, r.ends) (ap Some (omega arith)) })
  | inr p ↦ elim (cases_Bool (is_plain_in_text b)) [
    | inl q ↦
        let r = text_can false bs in
        let a = plain_apart b q in
        rw (q, p, take_one (text_begun false bs) b bs) (record { more = r.more; ends = rw (q, a.0, p, r.ends) (ap Some (omega arith)) })
    | inr q ↦ rw (q, p) (end_now false)
  ]
]

text_is_begun : (bs : List ℕ) → IsBegun (34 ∷ take (text_begun false bs) bs)
text_is_begun bs =
    let r = text_can false bs in
    let whole = take (text_begun false bs) bs ++ r.more in
    let t = text_sound whole (length whole) r.ends in
    (r.more, string t.0.0 (subst (λ (x : List ℕ). IsText (34 ∷ x) t.0.0) (take_all (length whole) whole (omega arith)) t.0.1))

-- ---- signs

first_sign : (s : Sign) → (b : ℕ) × (bs : List ℕ) × (sign_text s ≡ b ∷ bs) × ((s ≡ all.And) × (b ≡ 38) ⊎ ((t : Sign) × (sign_text t ≡ b ∷ []) × (t ≢ all.NotIn)))
first_sign all.Iff = (60, 61 ∷ 61 ∷ 62 ∷ [], refl, inr (all.Less, refl, λ e. cc))
first_sign all.Implies = (61, 61 ∷ 62 ∷ [], refl, inr (all.Define, refl, λ e. cc))
first_sign all.Explies = (60, 61 ∷ 61 ∷ [], refl, inr (all.Less, refl, λ e. cc))
first_sign all.And = (38, 38 ∷ [], refl, inl (refl, refl))
first_sign all.Or = (124, 124 ∷ [], refl, inr (all.Bar, refl, λ e. cc))
first_sign all.Equal = (61, 61 ∷ [], refl, inr (all.Define, refl, λ e. cc))
first_sign all.NotEqual = (33, 61 ∷ [], refl, inr (all.Not, refl, λ e. cc))
first_sign all.AtMost = (60, 61 ∷ [], refl, inr (all.Less, refl, λ e. cc))
first_sign all.AtLeast = (62, 61 ∷ [], refl, inr (all.Greater, refl, λ e. cc))
first_sign all.Less = (60, [], refl, inr (all.Less, refl, λ e. cc))
first_sign all.Greater = (62, [], refl, inr (all.Greater, refl, λ e. cc))
first_sign all.NotIn = (33, 105 ∷ 110 ∷ [], refl, inr (all.Not, refl, λ e. cc))
first_sign all.Disjoint = (33, 33 ∷ [], refl, inr (all.Not, refl, λ e. cc))
first_sign all.Not = (33, [], refl, inr (all.Not, refl, λ e. cc))
first_sign all.Plus = (43, [], refl, inr (all.Plus, refl, λ e. cc))
first_sign all.Minus = (45, [], refl, inr (all.Minus, refl, λ e. cc))
first_sign all.Times = (42, [], refl, inr (all.Times, refl, λ e. cc))
first_sign all.Divide = (47, [], refl, inr (all.Divide, refl, λ e. cc))
first_sign all.Modulo = (37, [], refl, inr (all.Modulo, refl, λ e. cc))
first_sign all.Assign = (58, 61 ∷ [], refl, inr (all.Colon, refl, λ e. cc))
first_sign all.SuchThat = (58, 124 ∷ [], refl, inr (all.Colon, refl, λ e. cc))
first_sign all.DoubleColon = (58, 58 ∷ [], refl, inr (all.Colon, refl, λ e. cc))
first_sign all.Colon = (58, [], refl, inr (all.Colon, refl, λ e. cc))
first_sign all.Semicolon = (59, [], refl, inr (all.Semicolon, refl, λ e. cc))
first_sign all.Comma = (44, [], refl, inr (all.Comma, refl, λ e. cc))
first_sign all.DotDot = (46, 46 ∷ [], refl, inr (all.Dot, refl, λ e. cc))
first_sign all.Dot = (46, [], refl, inr (all.Dot, refl, λ e. cc))
first_sign all.OpenParenthesis = (40, [], refl, inr (all.OpenParenthesis, refl, λ e. cc))
first_sign all.CloseParenthesis = (41, [], refl, inr (all.CloseParenthesis, refl, λ e. cc))
first_sign all.OpenBracket = (91, [], refl, inr (all.OpenBracket, refl, λ e. cc))
first_sign all.CloseBracket = (93, [], refl, inr (all.CloseBracket, refl, λ e. cc))
first_sign all.OpenAttribute = (123, 58 ∷ [], refl, inr (all.OpenBrace, refl, λ e. cc))
first_sign all.OpenBrace = (123, [], refl, inr (all.OpenBrace, refl, λ e. cc))
first_sign all.CloseBrace = (125, [], refl, inr (all.CloseBrace, refl, λ e. cc))
first_sign all.Bar = (124, [], refl, inr (all.Bar, refl, λ e. cc))
first_sign all.Arrow = (61, 62 ∷ [], refl, inr (all.Define, refl, λ e. cc))
first_sign all.Define = (61, [], refl, inr (all.Define, refl, λ e. cc))

sign_longest : (b : ℕ) (front more after : List ℕ) → IsSign (b ∷ (front ++ more)) [] → NoLexeme (b ∷ (front ++ after)) → (b ≡ 38) × (front ≡ [])
sign_longest b front more after (s, is, h) none = by (first_sign s)
  where
    by : (x : ℕ) × (xs : List ℕ) × (sign_text s ≡ x ∷ xs) × ((s ≡ all.And) × (x ≡ 38) ⊎ ((t : Sign) × (sign_text t ≡ x ∷ []) × (t ≢ all.NotIn))) → (b ≡ 38) × (front ≡ [])
    by (x, xs, first, inl (and, amp)) =
        let b_is : b ≡ 38 = head_same b x (front ++ more) xs (is ∙ first) ∙ amp in
        let rest_is : front ++ more ≡ 38 ∷ [] = tail_same b 38 (front ++ more) (38 ∷ []) (is ∙ ap sign_text and) in
        (b_is, only front rest_is b_is none)
      where
        only : (front : List ℕ) → front ++ more ≡ 38 ∷ [] → b ≡ 38 → NoLexeme (b ∷ (front ++ after)) → front ≡ []
        only [] e b_is none = refl
        only (c ∷ front) e b_is none =
            let none_left : front ++ more ≡ [] = tail_same c 38 (front ++ more) [] e in
            let ended : front ≡ [] = nil_from_length front (omega (arith, ap length none_left, length-append front more)) in
            let both : b ∷ c ∷ front ≡ 38 ∷ 38 ∷ [] = ap (λ (t : List ℕ). b ∷ c ∷ t) ended ∙ ap (λ (x : ℕ). b ∷ x ∷ []) (head_same c 38 (front ++ more) [] e) ∙ ap (λ (x : ℕ). x ∷ 38 ∷ []) b_is in
            absurd (none (b ∷ c ∷ front) after refl (sign (all.And, both, λ e. cc)))
    by (x, xs, first, inr (t, single, other)) =
        let b_is : b ≡ x = head_same b x (front ++ more) xs (is ∙ first) in
        absurd (none (b ∷ []) (front ++ after) refl (sign (t, ap (λ (y : ℕ). y ∷ []) b_is ∙ sym single, λ e. absurd (other e))))

-- ---- all of them

digit_begun : (b : ℕ) (bs : List ℕ) → is_digit b ≡ true → begun_at (b ∷ bs) ≡ number_begun (b ∷ bs)
digit_begun b bs h = cond-true (is_digit b) (number_begun (b ∷ bs)) (cond (eqb b 39) (1 + character_begun bs) (cond (eqb b 34) (1 + text_begun false bs) (cond (eqb b 38) 1 0))) h

character_begins : (b : ℕ) (bs : List ℕ) (c : ℕ) → IsCharacter (b ∷ bs) c → b ≡ 39
character_begins b bs c (inl (plain, is)) = head_same b 39 bs (c ∷ 39 ∷ []) is
character_begins b bs c (inr (e, esc, is)) = head_same b 39 bs (92 ∷ e ∷ 39 ∷ []) is

pub begun_can : (rest : List ℕ) → IsBegun (take (begun_at rest) rest)
begun_can [] = (48 ∷ [], number (inl refl) tt)
begun_can (b ∷ bs) = elim (cases_Bool (is_digit b)) [
  | inl p ↦ subst (λ n. IsBegun (take n (b ∷ bs))) (sym (digit_begun b bs p)) (number_can (b ∷ bs))
  | inr p ↦ elim (cases_Bool (eqb b 39)) [
    | inl q ↦ rw (p, q, take_one (character_begun bs) b bs, eqb-true b 39 q) (character_can bs)
    | inr q ↦ elim (cases_Bool (eqb b 34)) [
      | inl r ↦ rw (p, q, r, take_one (text_begun false bs) b bs, eqb-true b 34 r) (text_is_begun bs)
      | inr r ↦ elim (cases_Bool (eqb b 38)) [
        | inl s ↦ rw (p, q, r, s, eqb-true b 38 s) (38 ∷ [], sign (all.And, refl, λ e. cc))
        | inr s ↦ rw (p, q, r, s) (48 ∷ [], number (inl refl) tt)
      ]
    ]
  ]
]

pub begun_longest : (rest other more : List ℕ) → NoLexeme rest → rest ≡ other ++ more → IsBegun other → length other ≤ begun_at rest
begun_longest rest [] more none e h = omega arith
begun_longest rest (b ∷ front) more none e (after, h) = subst (λ (t : List ℕ). suc (length front) ≤ begun_at t) (sym e) (by h (subst NoLexeme e none))
  where
    by : IsLexeme (b ∷ (front ++ after)) [] → NoLexeme (b ∷ (front ++ more)) → suc (length front) ≤ begun_at (b ∷ (front ++ more))
    by (identifier h) none = absurd (none (b ∷ []) (front ++ more) refl (identifier (h.0, tt)))
    by (number h f) none =
        let p = number_first (b ∷ (front ++ after)) h in
        let d : is_digit b ≡ true = ap is_digit (head_same b p.0 (front ++ after) p.1 p.2) ∙ p.3 in
        subst (λ n. suc (length front) ≤ n) (sym (digit_begun b (front ++ more) d)) (number_longest (b ∷ front) after more h)
    by (character c h) none =
        let first : b ≡ 39 = character_begins b (front ++ after) c h in
        let some : after ≢ [] = λ e. none (b ∷ front) more refl (character c (subst (λ (t : List ℕ). IsCharacter (b ∷ t) c) (ap (λ (t : List ℕ). front ++ t) e ∙ append-nil front) h)) in
        let n = character_longest front after more c (subst (λ x. IsCharacter (x ∷ (front ++ after)) c) first h) some in
        let m : suc (length front) ≤ begun_at (39 ∷ (front ++ more)) = omega (arith, n) in
        subst (λ x. suc (length front) ≤ begun_at (x ∷ (front ++ more))) (sym first) m
    by (string cs h) none =
        let first : b ≡ 34 = head_same b 34 (front ++ after) (h.1 ++ 34 ∷ []) h.2 in
        let some : after ≢ [] = λ e. none (b ∷ front) more refl (string cs (subst (λ (t : List ℕ). IsText (b ∷ t) cs) (ap (λ (t : List ℕ). front ++ t) e ∙ append-nil front) h)) in
        let n = text_longest front after more cs (subst (λ x. IsText (x ∷ (front ++ after)) cs) first h) some in
        let m : suc (length front) ≤ begun_at (34 ∷ (front ++ more)) = omega (arith, n) in
        subst (λ x. suc (length front) ≤ begun_at (x ∷ (front ++ more))) (sym first) m
    by (sign h) none =
        let p = sign_longest b front after more h none in
        let m : 1 ≤ begun_at (38 ∷ (front ++ more)) = omega arith in
        subst (λ x. suc (length front) ≤ begun_at (x ∷ (front ++ more))) (sym p.0) (omega (arith, m, ap length p.1))

pub stops_at : (rest : List ℕ) → NoLexeme rest → Stops rest (take (begun_at rest) rest) (drop (begun_at rest) rest)
stops_at rest none = record {
  is = sym (take-append-drop (begun_at rest) rest);
  begun = begun_can rest;
  longest = λ other more e h. omega (arith, begun_longest rest other more none e h, length-take (begun_at rest) rest, ap length e, length-append other more);
}
