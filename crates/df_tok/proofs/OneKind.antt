-- A token's text has one kind.
use Rattle.std.proofs.Common.{◌≡◌, ◌≢◌, ℕ, zero, suc, ◌<◌, ◌^◌, inl, inr, Bool, true, false, cond, eqb, List, [], ◌∷◌, length, get_or, Option, Some, None, refl, sym, ap, subst, ◌∙◌, arith}
use Rattle.std.specs.Prelude.{nat_eq, ◌&&◌, not, codes, position, option_map}
use Rattle.std.specs.List.{find, list_all}
use Rattle.std.proofs.lemmas.Bool.{false≢true, false_from_ne_true, and_parts, not-true}
use Rattle.std.proofs.lemmas.Option.{MatchOption-at_some, same_Some}
use Rattle.std.proofs.lemmas.List.{append-nil}
use Rattle.std.proofs.lemmas.Slice.Eq.{bytes_eq-Decides}
use Rattle.df_base.specs.Names.{same_text, with_text}
use Rattle.df_tok.specs.Byte.{is_digit, begins_identifier, is_blank}
use Rattle.df_tok.specs.declared.word.Word.{Word}
use Rattle.df_tok.specs.declared.word.Word.TheVariants as all
use Rattle.df_tok.specs.declared.token.Kind.{Kind}
use Rattle.df_tok.specs.declared.token.Kind.TheVariants as kinds
use Rattle.df_tok.specs.Word.{word_text}
use Rattle.df_tok.specs.Words.{words}
use Rattle.df_tok.specs.Sign.{sign_text}
use Rattle.df_tok.specs.Outside.{IsOutside, outside_words}
use Rattle.df_tok.specs.Lexeme.{IsIdentifier, IsNumber, value_of_number, IsWord}
use Rattle.df_tok.specs.Token.{HasKind}
use Rattle.df_tok.specs.Scanning.{is_written, is_outside, character_at}
use Rattle.df_tok.proofs.Words.{word_again, word_found}
use Rattle.df_tok.proofs.Signs.{coded, sign_again, begins_sign, sign_begins}
use Rattle.df_tok.proofs.Outsides.{outside_complete, outside_sound, no_outside}
use Rattle.df_tok.proofs.Literals.{number_first, character_again}
use Rattle.df_tok.proofs.Lexemes.{digit_is_none}

-- ---- the kind of a text, by its first byte

abbrev name_or : (ℕ → Kind) → Option ℕ → Option Kind
name_or kind found = option_map kind found

abbrev word_or : Option Word → Option Kind → Option Kind
word_or None other = other
word_or (Some word) other = Some (kinds.Word word)

-- the number of a name among those before, or the next
abbrev number_of : List (List ℕ) → List ℕ → Option ℕ
number_of before text = position (same_text text) (with_text before text)

abbrev identifier_kind : List (List ℕ) → List ℕ → Option Kind
identifier_kind before text =
    cond (same_text text (codes "_")) (Some kinds.Wildcard)
    (word_or (find (is_written text) words) (cond (is_outside text) (option_map kinds.Outside (number_of before text)) (option_map kinds.Name (number_of before text))))

unfoldable kind_at : List (List ℕ) → List ℕ → Option Kind
kind_at before [] = None
kind_at before (b ∷ bs) =
    cond (begins_identifier b) (identifier_kind before (b ∷ bs))
    (cond (is_digit b) (Some (kinds.Number (value_of_number (b ∷ bs))))
    (cond (eqb b 39) (option_map (λ c. kinds.Character c.0) (character_at bs))
    (cond (eqb b 34) (Some kinds.Text) (option_map kinds.Sign (coded (b ∷ bs))))))

-- the names after a token of a kind
abbrev names_after : List (List ℕ) → List ℕ → Kind → List (List ℕ)
names_after before text (kinds.Name n) = with_text before text
names_after before text (kinds.Outside n) = with_text before text
names_after before text kinds.Wildcard = before
names_after before text (kinds.Word w) = before
names_after before text (kinds.Number n) = before
names_after before text (kinds.Character c) = before
names_after before text kinds.Text = before
names_after before text (kinds.Sign s) = before

-- ---- it is that of each kind

abbrev pub begins : (ℕ → Bool) → List ℕ → Bool
begins test [] = false
begins test (b ∷ bs) = test b

identifier_case : (before : List (List ℕ)) (text : List ℕ) → begins begins_identifier text ≡ true → kind_at before text ≡ identifier_kind before text
unfolding kind_at
identifier_case before [] h = absurd cc
identifier_case before (b ∷ bs) h = rw h refl

pub identifier_begins : (text : List ℕ) → IsIdentifier text → begins begins_identifier text ≡ true
identifier_begins [] h = absurd h
identifier_begins (b ∷ bs) h = h.0

all_begin : (text : List ℕ) (texts : List (List ℕ)) (k : ℕ) → list_all (begins begins_identifier) texts ≡ true → k < length texts → get_or texts k text ≡ text → begins begins_identifier text ≡ true
all_begin text [] k h lt at = absurd (omega arith)
all_begin text (t ∷ ts) zero h lt at = ap (begins begins_identifier) (sym at) ∙ (and_parts _ (list_all (begins begins_identifier) ts) h).0
all_begin text (t ∷ ts) (suc k) h lt at = all_begin text ts k (and_parts (begins begins_identifier t) (list_all (begins begins_identifier) ts) h).1 (omega arith) at

outside_begins : (text : List ℕ) → IsOutside text → begins begins_identifier text ≡ true
outside_begins text (inl h) = all_begin text outside_words h.0 refl h.1 h.2
outside_begins text (inr (inl (digits, all, is))) = ap (begins begins_identifier) is
outside_begins text (inr (inr (digits, all, inl is))) = ap (begins begins_identifier) is
outside_begins text (inr (inr (digits, all, inr is))) = ap (begins begins_identifier) is

word_begins : (word : Word) → begins begins_identifier (word_text word) ≡ true
word_begins all.Array = refl
word_begins all.ArrayOrNull = refl
word_begins all.As = refl
word_begins all.Assert = refl
word_begins all.Bool = refl
word_begins all.Break = refl
word_begins all.By = refl
word_begins all.Calc = refl
word_begins all.Case = refl
word_begins all.Char = refl
word_begins all.Class = refl
word_begins all.Constructor = refl
word_begins all.Datatype = refl
word_begins all.Decreases = refl
word_begins all.Else = refl
word_begins all.Ensures = refl
word_begins all.Exists = refl
word_begins all.False = refl
word_begins all.Forall = refl
word_begins all.Fresh = refl
word_begins all.Function = refl
word_begins all.Ghost = refl
word_begins all.If = refl
word_begins all.Import = refl
word_begins all.In = refl
word_begins all.Int = refl
word_begins all.Invariant = refl
word_begins all.Lemma = refl
word_begins all.Match = refl
word_begins all.Method = refl
word_begins all.Modifies = refl
word_begins all.Module = refl
word_begins all.Nat = refl
word_begins all.New = refl
word_begins all.Newtype = refl
word_begins all.Null = refl
word_begins all.Object = refl
word_begins all.ObjectOrNull = refl
word_begins all.Old = refl
word_begins all.Opened = refl
word_begins all.Predicate = refl
word_begins all.Print = refl
word_begins all.Reads = refl
word_begins all.Requires = refl
word_begins all.Return = refl
word_begins all.Returns = refl
word_begins all.Seq = refl
word_begins all.Set = refl
word_begins all.String = refl
word_begins all.Then = refl
word_begins all.This = refl
word_begins all.True = refl
word_begins all.Var = refl
word_begins all.While = refl
word_begins all.Witness = refl

word_no_wildcard : (word : Word) → same_text (word_text word) (codes "_") ≡ false
word_no_wildcard all.Array = refl
word_no_wildcard all.ArrayOrNull = refl
word_no_wildcard all.As = refl
word_no_wildcard all.Assert = refl
word_no_wildcard all.Bool = refl
word_no_wildcard all.Break = refl
word_no_wildcard all.By = refl
word_no_wildcard all.Calc = refl
word_no_wildcard all.Case = refl
word_no_wildcard all.Char = refl
word_no_wildcard all.Class = refl
word_no_wildcard all.Constructor = refl
word_no_wildcard all.Datatype = refl
word_no_wildcard all.Decreases = refl
word_no_wildcard all.Else = refl
word_no_wildcard all.Ensures = refl
word_no_wildcard all.Exists = refl
word_no_wildcard all.False = refl
word_no_wildcard all.Forall = refl
word_no_wildcard all.Fresh = refl
word_no_wildcard all.Function = refl
word_no_wildcard all.Ghost = refl
word_no_wildcard all.If = refl
word_no_wildcard all.Import = refl
word_no_wildcard all.In = refl
word_no_wildcard all.Int = refl
word_no_wildcard all.Invariant = refl
word_no_wildcard all.Lemma = refl
word_no_wildcard all.Match = refl
word_no_wildcard all.Method = refl
word_no_wildcard all.Modifies = refl
word_no_wildcard all.Module = refl
word_no_wildcard all.Nat = refl
word_no_wildcard all.New = refl
word_no_wildcard all.Newtype = refl
word_no_wildcard all.Null = refl
word_no_wildcard all.Object = refl
word_no_wildcard all.ObjectOrNull = refl
word_no_wildcard all.Old = refl
word_no_wildcard all.Opened = refl
word_no_wildcard all.Predicate = refl
word_no_wildcard all.Print = refl
word_no_wildcard all.Reads = refl
word_no_wildcard all.Requires = refl
word_no_wildcard all.Return = refl
word_no_wildcard all.Returns = refl
word_no_wildcard all.Seq = refl
word_no_wildcard all.Set = refl
word_no_wildcard all.String = refl
word_no_wildcard all.Then = refl
word_no_wildcard all.This = refl
word_no_wildcard all.True = refl
word_no_wildcard all.Var = refl
word_no_wildcard all.While = refl
word_no_wildcard all.Witness = refl

no_word : (text : List ℕ) → ¬ IsWord text → find (is_written text) words ≡ None
no_word text h = by (find (is_written text) words) refl
  where
    by : (o : Option Word) → find (is_written text) words ≡ o → o ≡ None
    by None e = refl
    by (Some w) e = absurd (h (w, MatchOption-at_some (¬ IsWord text) (λ word. text ≡ word_text word) w e (word_found text)))

no_wildcard : (text : List ℕ) → text ≢ codes "_" → same_text text (codes "_") ≡ false
no_wildcard text h = false_from_ne_true _ (λ e. h ((bytes_eq-Decides text (codes "_")).0 e))

outside_no_wildcard : (text : List ℕ) → IsOutside text → text ≢ codes "_"
outside_no_wildcard text h e = false≢true (sym (ap is_outside e) ∙ outside_complete text h)

outside_no_word : (text : List ℕ) → IsOutside text → ¬ IsWord text
outside_no_word text h w = false≢true (sym (ap is_outside w.1 ∙ no_outside w.0) ∙ outside_complete text h)

sign_case : (before : List (List ℕ)) (bytes : List ℕ) → begins_sign bytes ≡ true → kind_at before bytes ≡ option_map kinds.Sign (coded bytes)
unfolding kind_at
sign_case before [] h = absurd cc
sign_case before (b ∷ bs) h =
    let p = and_parts (not (begins_identifier b) && not (is_digit b) && not (nat_eq b 39) && not (nat_eq b 34)) (not (is_blank b)) h in
    let q = and_parts (not (begins_identifier b) && not (is_digit b) && not (nat_eq b 39)) (not (nat_eq b 34)) p.0 in
    let r = and_parts (not (begins_identifier b) && not (is_digit b)) (not (nat_eq b 39)) q.0 in
    let s = and_parts (not (begins_identifier b)) (not (is_digit b)) r.0 in
    rw (not-true (begins_identifier b) s.0, not-true (is_digit b) s.1, not-true (nat_eq b 39) r.1, not-true (nat_eq b 34) q.1) refl

kind_found : (before : List (List ℕ)) (text : List ℕ) (kind : Kind) (after : List (List ℕ)) → HasKind before text kind after → (kind_at before text ≡ Some kind) × (after ≡ names_after before text kind)
unfolding kind_at
kind_found before text (kinds.Name n) after (is, wild, word, out, named) =
    let number : number_of before text ≡ Some n = ap (position (same_text text)) (sym named.0) ∙ named.1 in
    let inside : is_outside text ≡ false = false_from_ne_true _ (λ e. out (outside_sound text e)) in
    (identifier_case before text (identifier_begins text is) ∙ rw (no_wildcard text wild, no_word text word, inside, number) refl, named.0)
kind_found before text (kinds.Outside n) after (out, named) =
    let number : number_of before text ≡ Some n = ap (position (same_text text)) (sym named.0) ∙ named.1 in
    (identifier_case before text (outside_begins text out) ∙ rw (no_wildcard text (outside_no_wildcard text out), no_word text (outside_no_word text out), outside_complete text out, number) refl, named.0)
kind_found before text kinds.Wildcard after (is, kept) = (ap (kind_at before) is, kept)
kind_found before text (kinds.Word w) after (is, kept) =
    (ap (kind_at before) is ∙ identifier_case before (word_text w) (word_begins w) ∙ rw (word_no_wildcard w, word_again w) refl, kept)
kind_found before text (kinds.Number n) after (is, value, small, kept) =
    let p = number_first text is in
    let e : kind_at before (p.0 ∷ p.1) ≡ Some (kinds.Number (value_of_number (p.0 ∷ p.1))) = rw (digit_is_none p.0 p.3, p.3) refl in
    (subst (λ (t : List ℕ). kind_at before t ≡ Some (kinds.Number (value_of_number t))) (sym p.2) e ∙ ap (λ v. Some (kinds.Number v)) (sym value), kept)
kind_found before text (kinds.Character c) after (is, kept) =
    let p = character_again text [] c is in
    (ap (kind_at before) p.1 ∙ ap (λ (t : List ℕ). option_map (λ x. kinds.Character x.0) (character_at t)) (sym (append-nil p.0)) ∙ ap (option_map (λ x. kinds.Character x.0)) p.2, kept)
kind_found before text kinds.Text after ((cs, (parts, inner, is, are)), kept) = (ap (kind_at before) is, kept)
kind_found before text (kinds.Sign s) after (is, kept) =
    (ap (kind_at before) is ∙ sign_case before (sign_text s) (sign_begins s) ∙ ap (option_map kinds.Sign) (sign_again s), kept)

pub one_kind : (before : List (List ℕ)) (text : List ℕ) (kind other : Kind) (after last : List (List ℕ)) → HasKind before text kind after → HasKind before text other last → (kind ≡ other) × (after ≡ last)
one_kind before text kind other after last h g =
    let p = kind_found before text kind after h in
    let q = kind_found before text other last g in
    let same : kind ≡ other = same_Some kind other (sym p.0 ∙ q.0) in
    (same, p.1 ∙ ap (names_after before text) same ∙ sym q.1)

-- a number's token has its value, below 2^127
pub number_small : (before : List (List ℕ)) (text : List ℕ) (kind : Kind) (after : List (List ℕ)) → IsNumber text → HasKind before text kind after → value_of_number text < 2 ^ 127
unfolding kind_at
number_small before text kind after is h =
    let p = number_first text is in
    let e : kind_at before (p.0 ∷ p.1) ≡ Some (kinds.Number (value_of_number (p.0 ∷ p.1))) = rw (digit_is_none p.0 p.3, p.3) refl in
    let number : kind_at before text ≡ Some (kinds.Number (value_of_number text)) = subst (λ (t : List ℕ). kind_at before t ≡ Some (kinds.Number (value_of_number t))) (sym p.2) e in
    let same : kind ≡ kinds.Number (value_of_number text) = same_Some kind (kinds.Number (value_of_number text)) (sym (kind_found before text kind after h).0 ∙ number) in
    (subst (λ (k : Kind). HasKind before text k after) same h).2
