-- The words outside the language, by their texts.
use Rattle.std.proofs.Common.{◌≡◌, ◌≢◌, ℕ, zero, suc, ◌+◌, ◌<◌, ◌⊎◌, inl, inr, Bool, true, false, List, [], ◌∷◌, ◌++◌, length, get_or, drop, refl, sym, ap, subst, ◌∙◌, append_assoc, arith}
use Rattle.std.specs.Prelude.{nat_eq, nat_lt, ◌&&◌, ◌||◌, MatchBool, codes, Contains}
use Rattle.std.specs.List.{list_any, starts_with, prefix_len}
use Rattle.std.specs.Cmp.Lexicographic.{pointwise}
use Rattle.std.proofs.lemmas.Bool.{and_parts, and_from, or_cases, or_left, or_right, eqb-true, eq-eqb, ltb-true, lt-ltb, false≢true}
use Rattle.std.proofs.lemmas.List.{append-nil, length-append, drop_at, nil_from_length}
use Rattle.std.proofs.lemmas.Slice.Eq.{bytes_eq-Decides}
use Rattle.df_tok.specs.declared.word.Word.{Word}
use Rattle.df_tok.specs.declared.word.Word.TheVariants as all
use Rattle.df_tok.specs.Word.{word_text}
use Rattle.df_tok.specs.Byte.{is_digit}
use Rattle.df_tok.specs.Outside.{outside_words, AreAllDigits, IsOutside}
use Rattle.df_tok.specs.Scanning.{are_only_digits, are_array_digits, is_outside}
use Rattle.df_tok.proofs.Lists.{Parts-drop, Passes, run_of, run_all, starts_front, starts_again}

-- ---- listed words

listed_sound : (text : List ℕ) (words : List (List ℕ)) → list_any (pointwise nat_eq text) words ≡ true → Contains words text
listed_sound text [] h = absurd (false≢true h)
listed_sound text (w ∷ ws) h = elim (or_cases (pointwise nat_eq text w) (list_any (pointwise nat_eq text) ws) h) [
  | inl e ↦ (zero, omega arith, sym ((bytes_eq-Decides text w).0 e))
  | inr e ↦ let r = listed_sound text ws e in (suc r.0, omega (arith, r.1), r.2)
]

listed_complete : (text : List ℕ) (words : List (List ℕ)) (k : ℕ) → k < length words → get_or words k text ≡ text → list_any (pointwise nat_eq text) words ≡ true
listed_complete text [] k lt at = absurd (omega arith)
listed_complete text (w ∷ ws) zero lt at = or_left _ _ ((bytes_eq-Decides text w).1 (sym at))
listed_complete text (w ∷ ws) (suc k) lt at = or_right _ _ (listed_complete text ws k (omega arith) at)

-- ---- digits

not_nil : (bytes : List ℕ) → 0 < length bytes → bytes ≢ []
not_nil bytes lt e = absurd (omega (arith, ap length e))

pub some_length : (bytes : List ℕ) → bytes ≢ [] → 0 < length bytes
some_length [] h = absurd (h refl)
some_length (b ∷ bs) h = omega arith

only_sound : (bytes : List ℕ) → are_only_digits bytes ≡ true → AreAllDigits bytes
only_sound bytes h =
    let p = and_parts _ _ h in
    let n = prefix_len is_digit bytes in
    let all : n ≡ length bytes = eqb-true _ _ p.1 in
    let some : 0 < n = ltb-true _ _ p.0 in
    let r = run_of is_digit bytes in
    let none : r.rest ≡ [] = nil_from_length r.rest (omega (arith, ap length r.parts.is, length-append r.front r.rest, r.parts.len)) in
    let e : bytes ≡ r.front = r.parts.is ∙ ap (λ (t : List ℕ). r.front ++ t) none ∙ append-nil r.front in
    (not_nil bytes (omega arith), subst (Passes is_digit) (sym e) r.passes)

only_complete : (bytes : List ℕ) → AreAllDigits bytes → are_only_digits bytes ≡ true
only_complete bytes h =
    let e : prefix_len is_digit bytes ≡ length bytes = ap (prefix_len is_digit) (sym (append-nil bytes)) ∙ run_all is_digit bytes [] h.1 ∙ omega arith in
    and_from _ _ (lt-ltb _ _ (omega (arith, some_length bytes h.0))) (eq-eqb _ _ e)

-- digits, and then nothing or `?`
abbrev ArrayDigits : List ℕ → Type 0
ArrayDigits bytes = (digits : List ℕ) × AreAllDigits digits × ((bytes ≡ digits) ⊎ (bytes ≡ digits ++ codes "?"))

array_sound : (bytes : List ℕ) → are_array_digits bytes ≡ true → ArrayDigits bytes
array_sound bytes h =
    let n = prefix_len is_digit bytes in
    let p = and_parts (nat_lt 0 n) (nat_eq n (length bytes) || (starts_with nat_eq (drop n bytes) (codes "?") && nat_eq (n + 1) (length bytes))) h in
    let some : 0 < n = ltb-true _ _ p.0 in
    let r = run_of is_digit bytes in
    let digits : AreAllDigits r.front = (not_nil r.front (omega (arith, r.parts.len)), r.passes) in
    elim (or_cases (nat_eq n (length bytes)) (starts_with nat_eq (drop n bytes) (codes "?") && nat_eq (n + 1) (length bytes)) p.1) [
      | inl e ↦
          let none : r.rest ≡ [] = nil_from_length r.rest (omega (arith, eqb-true n (length bytes) e, ap length r.parts.is, length-append r.front r.rest, r.parts.len)) in
          (r.front, digits, inl (r.parts.is ∙ ap (λ (t : List ℕ). r.front ++ t) none ∙ append-nil r.front))
      | inr e ↦
          let q = and_parts (starts_with nat_eq (drop n bytes) (codes "?")) (nat_eq (n + 1) (length bytes)) e in
          let rest : drop n bytes ≡ codes "?" ++ drop 1 (drop n bytes) = starts_front (drop n bytes) (codes "?") q.0 in
          let same : r.rest ≡ drop n bytes = Parts-drop bytes r.front r.rest n r.parts in
          let none : drop 1 (drop n bytes) ≡ [] = nil_from_length _ (omega (arith, eqb-true (n + 1) (length bytes) q.1, ap length r.parts.is, length-append r.front r.rest, r.parts.len, ap length same, ap length rest, length-append (codes "?") (drop 1 (drop n bytes)))) in
          (r.front, digits, inr (r.parts.is ∙ ap (λ (t : List ℕ). r.front ++ t) (same ∙ rest ∙ ap (λ (t : List ℕ). codes "?" ++ t) none)))
    ]

array_from : (bytes : List ℕ) → nat_lt 0 (prefix_len is_digit bytes) ≡ true → (nat_eq (prefix_len is_digit bytes) (length bytes) || (starts_with nat_eq (drop (prefix_len is_digit bytes) bytes) (codes "?") && nat_eq (prefix_len is_digit bytes + 1) (length bytes))) ≡ true → are_array_digits bytes ≡ true
array_from bytes some e = rw (some, e) refl

array_complete : (bytes : List ℕ) → ArrayDigits bytes → are_array_digits bytes ≡ true
array_complete bytes (digits, all, inl e) =
    let n = prefix_len is_digit digits in
    let o = and_parts (nat_lt 0 n) (nat_eq n (length digits)) (only_complete digits all) in
    subst (λ (t : List ℕ). are_array_digits t ≡ true) (sym e) (array_from digits o.0 (or_left (nat_eq n (length digits)) _ o.1))
array_complete bytes (digits, all, inr e) =
    let whole = digits ++ codes "?" in
    let k = prefix_len is_digit whole in
    let n : k ≡ length digits = run_all is_digit digits (codes "?") all.1 ∙ omega arith in
    let some : nat_lt 0 k ≡ true = lt-ltb 0 k (omega (arith, some_length digits all.0)) in
    let rest : drop k whole ≡ codes "?" = ap (λ i. drop i whole) n ∙ drop_at digits (codes "?") (length digits) refl in
    let starts : starts_with nat_eq (drop k whole) (codes "?") ≡ true = ap (λ (t : List ℕ). starts_with nat_eq t (codes "?")) rest in
    let ends : nat_eq (k + 1) (length whole) ≡ true = eq-eqb (k + 1) (length whole) (omega (arith, n, length-append digits (codes "?"))) in
    subst (λ (t : List ℕ). are_array_digits t ≡ true) (sym e) (array_from whole some (or_right (nat_eq k (length whole)) (starts_with nat_eq (drop k whole) (codes "?") && nat_eq (k + 1) (length whole)) (and_from (starts_with nat_eq (drop k whole) (codes "?")) (nat_eq (k + 1) (length whole)) starts ends)))

-- ---- all of them

pub outside_sound : (text : List ℕ) → is_outside text ≡ true → IsOutside text
outside_sound text h = elim (or_cases _ _ h) [
  | inl g ↦ elim (or_cases _ _ g) [
    | inl e ↦ inl (listed_sound text outside_words e)
    | inr e ↦ let p = and_parts (starts_with nat_eq text (codes "bv")) _ e in inr (inl (drop 2 text, only_sound _ p.1, starts_front text (codes "bv") p.0))
  ]
  | inr e ↦
      let p = and_parts (starts_with nat_eq text (codes "array")) _ e in
      let front = starts_front text (codes "array") p.0 in
      let a = array_sound _ p.1 in
      inr (inr (
        a.0,
        a.1,
        elim a.2 [
          | inl d ↦ inl (front ∙ ap (λ (t : List ℕ). codes "array" ++ t) d)
          | inr d ↦ inr (front ∙ ap (λ (t : List ℕ). codes "array" ++ t) d)
        ],
      ))
]

abbrev listed : List ℕ → Bool
listed text = list_any (pointwise nat_eq text) outside_words

abbrev bits : List ℕ → Bool
bits text = starts_with nat_eq text (codes "bv") && are_only_digits (drop 2 text)

abbrev arrays : List ℕ → Bool
arrays text = starts_with nat_eq text (codes "array") && are_array_digits (drop 5 text)

arrays_from : (text rest : List ℕ) → text ≡ codes "array" ++ rest → are_array_digits rest ≡ true → arrays text ≡ true
arrays_from text rest is h = subst (λ (t : List ℕ). arrays t ≡ true) (sym is) (and_from (starts_with nat_eq (codes "array" ++ rest) (codes "array")) (are_array_digits rest) (starts_again (codes "array") rest) h)

pub outside_complete : (text : List ℕ) → IsOutside text → is_outside text ≡ true
outside_complete text (inl h) = or_left (listed text || bits text) (arrays text) (or_left (listed text) (bits text) (listed_complete text outside_words h.0 h.1 h.2))
outside_complete text (inr (inl (digits, all, is))) =
    let starts : starts_with nat_eq (codes "bv" ++ digits) (codes "bv") ≡ true = starts_again (codes "bv") digits in
    let b : bits text ≡ true = subst (λ (t : List ℕ). bits t ≡ true) (sym is) (and_from (starts_with nat_eq (codes "bv" ++ digits) (codes "bv")) (are_only_digits digits) starts (only_complete digits all)) in
    or_left (listed text || bits text) (arrays text) (or_right (listed text) (bits text) b)
outside_complete text (inr (inr (digits, all, inl is))) = or_right (listed text || bits text) (arrays text) (arrays_from text digits is (array_complete digits (digits, all, inl refl)))
outside_complete text (inr (inr (digits, all, inr is))) = or_right (listed text || bits text) (arrays text) (arrays_from text (digits ++ codes "?") (is ∙ append_assoc (codes "array") digits (codes "?")) (array_complete (digits ++ codes "?") (digits, all, inr refl)))

pub outside_law : (text : List ℕ) → MatchBool (is_outside text) (IsOutside text) (¬ IsOutside text)
outside_law text = by (is_outside text) refl
  where
    by : (b : Bool) → is_outside text ≡ b → MatchBool b (IsOutside text) (¬ IsOutside text)
    by true e = outside_sound text e
    by false e = λ h. false≢true (sym e ∙ outside_complete text h)

-- no word of the language is outside it
pub no_outside : (word : Word) → is_outside (word_text word) ≡ false
no_outside all.Array = refl
no_outside all.ArrayOrNull = refl
no_outside all.As = refl
no_outside all.Assert = refl
no_outside all.Bool = refl
no_outside all.Break = refl
no_outside all.By = refl
no_outside all.Calc = refl
no_outside all.Case = refl
no_outside all.Char = refl
no_outside all.Class = refl
no_outside all.Constructor = refl
no_outside all.Datatype = refl
no_outside all.Decreases = refl
no_outside all.Else = refl
no_outside all.Ensures = refl
no_outside all.Exists = refl
no_outside all.False = refl
no_outside all.Forall = refl
no_outside all.Fresh = refl
no_outside all.Function = refl
no_outside all.Ghost = refl
no_outside all.If = refl
no_outside all.Import = refl
no_outside all.In = refl
no_outside all.Int = refl
no_outside all.Invariant = refl
no_outside all.Lemma = refl
no_outside all.Match = refl
no_outside all.Method = refl
no_outside all.Modifies = refl
no_outside all.Module = refl
no_outside all.Nat = refl
no_outside all.New = refl
no_outside all.Newtype = refl
no_outside all.Null = refl
no_outside all.Object = refl
no_outside all.ObjectOrNull = refl
no_outside all.Old = refl
no_outside all.Opened = refl
no_outside all.Predicate = refl
no_outside all.Print = refl
no_outside all.Reads = refl
no_outside all.Requires = refl
no_outside all.Return = refl
no_outside all.Returns = refl
no_outside all.Seq = refl
no_outside all.Set = refl
no_outside all.String = refl
no_outside all.Then = refl
no_outside all.This = refl
no_outside all.True = refl
no_outside all.Var = refl
no_outside all.While = refl
no_outside all.Witness = refl
