-- The piece at the front of a source: what is found is one, and there is no other.
use Rattle.std.proofs.Common.{◌≡◌, ◌≢◌, ℕ, ◌+◌, ◌<◌, ◌≤◌, ◌⊎◌, inl, inr, Bool, true, false, cond, eqb, List, [], ◌∷◌, ◌++◌, length, take, drop, Option, Some, None, refl, sym, ap, subst, ◌∙◌, arith}
use Rattle.std.specs.Prelude.{nat_eq, ◌&&◌, not, codes}
use Rattle.std.specs.List.{prefix_len, starts_with, AllByRecursion}
use Rattle.std.proofs.lemmas.Bool.{and_parts, not-true, eqb-true, ne_eqb, eqb-false, both_ways, false_from_ne_true, not_from_false, not-false}
use Rattle.std.proofs.lemmas.Bool.Decides.{nat_tests}
use Rattle.std.proofs.lemmas.List.{take_at, drop_at, length-take-le, take-append-drop}
use Rattle.std.proofs.lemmas.Option.{some_pair_parts, none-some}
use Rattle.df_lemmas.proofs.Truths.{choice}
use Rattle.df_base.specs.declared.pos.Pos.{Pos}
use Rattle.df_tok.specs.Byte.{is_digit, is_blank, begins_identifier}
use Rattle.df_tok.specs.declared.token.Kind.{Kind}
use Rattle.df_tok.specs.declared.scan.Form.{Form}
use Rattle.df_tok.specs.declared.scan.Form.TheVariants as forms
use Rattle.df_tok.specs.declared.scan.Front.{Front}
use Rattle.df_tok.specs.declared.scan.Front.TheVariants.{Skipped, Lexeme as Lexed}
use Rattle.df_tok.specs.Sign.{sign_text}
use Rattle.df_tok.specs.Lexeme.{NotNext, IsLexeme}
use Rattle.df_tok.specs.Token.{HasKind}
use Rattle.df_tok.specs.Scanned.{HasForm}
use Rattle.df_tok.specs.Scanning.{begins_blank, comment_len, skips, lexes, lexeme_at, front_at}
use Rattle.df_tok.specs.Division.{EndsLine, Closes, BeginsComment, IsLongest, Piece, Blank, LineComment, BlockComment, Lexeme, text_of, IsPiece}
use Rattle.df_tok.specs.Steps.{token_of, NextPiece, NoPiece}
use Rattle.df_tok.proofs.Lists.{starts_front, Parts, Parts-take, Parts-drop, Passes, run_of, run_all, run_none}
use Rattle.df_tok.proofs.Literals.{number_first}
use Rattle.df_tok.proofs.Comments.{unused, used, comment_again, comment_sound}
use Rattle.df_tok.proofs.Signs.{begins_sign, sign_begins}
use Rattle.df_tok.proofs.Lexemes.{lexeme_of, lexeme_sound, furthest}
use Rattle.df_tok.proofs.OneKind.{one_kind}

abbrev other_byte : ℕ → Bool
other_byte b = not (eqb b 10)

-- ---- where each piece stands

blank_case : (b : ℕ) (bs : List ℕ) → is_blank b ≡ true → front_at (b ∷ bs) ≡ Some (Skipped 1)
unfolding front_at
blank_case b bs h = rw h refl

line_case : (rest : List ℕ) → front_at (47 ∷ 47 ∷ rest) ≡ Some (Skipped (2 + prefix_len other_byte rest))
unfolding front_at
line_case rest = refl

pub block_case : (rest : List ℕ) → front_at (47 ∷ 42 ∷ rest) ≡ skips 2 (comment_len 0 0 rest)
unfolding front_at
block_case rest = refl

comment_front : (bytes : List ℕ) (b : ℕ) → (b ≡ 47) ⊎ (b ≡ 42) → starts_with nat_eq bytes (47 ∷ b ∷ []) ≡ true → BeginsComment bytes
comment_front bytes b h e = (b, drop 2 bytes, starts_front bytes (47 ∷ b ∷ []) e, h)

lexeme_case : (bytes : List ℕ) → begins_blank bytes ≡ false → ¬ BeginsComment bytes → front_at bytes ≡ lexes (lexeme_at bytes)
unfolding front_at
lexeme_case bytes blank comment =
    let line : starts_with nat_eq bytes (codes "//") ≡ false = false_from_ne_true _ (λ e. comment (comment_front bytes 47 (inl refl) e)) in
    let block : starts_with nat_eq bytes (codes "/*") ≡ false = false_from_ne_true _ (λ e. comment (comment_front bytes 42 (inr refl) e)) in
    rw (blank, line, block) refl

identifier_no_blank : (b : ℕ) → begins_identifier b ≡ true → is_blank b ≡ false
identifier_no_blank b h = grind (arith, nat_tests)

digit_no_blank : (b : ℕ) → is_digit b ≡ true → is_blank b ≡ false
digit_no_blank b h = grind (arith, nat_tests)

sign_no_blank : (text : List ℕ) → begins_sign text ≡ true → begins_blank text ≡ false
sign_no_blank [] h = refl
sign_no_blank (b ∷ bs) h = not-true _ (and_parts (not (begins_identifier b) && not (is_digit b) && not (nat_eq b 39) && not (nat_eq b 34)) (not (is_blank b)) h).1

form_no_blank : (form : Form) (text : List ℕ) → HasForm form text → begins_blank text ≡ false
form_no_blank forms.Identifier [] h = refl
form_no_blank forms.Identifier (b ∷ bs) h = identifier_no_blank b h.0
form_no_blank forms.Number text h = let p = number_first text h in ap begins_blank p.2 ∙ digit_no_blank p.0 p.3
form_no_blank (forms.Character c) text (inl h) = ap begins_blank h.1
form_no_blank (forms.Character c) text (inr h) = ap begins_blank h.2
form_no_blank forms.Text text (cs, (parts, inner, is, are)) = ap begins_blank is
form_no_blank (forms.Sign s) text h = ap begins_blank h ∙ sign_no_blank (sign_text s) (sign_begins s)

blank_goes_on : (text rest : List ℕ) → 0 < length text → begins_blank text ≡ false → begins_blank (text ++ rest) ≡ false
blank_goes_on [] rest lt h = absurd (omega arith)
blank_goes_on (b ∷ bs) rest lt h = h

-- ---- a piece is found where it stands

pub data Seen (names : List (List ℕ)) (piece : Piece) (bytes : List ℕ) (after : List (List ℕ)) : Type 0 where
  skip : front_at bytes ≡ Some (Skipped (length (text_of piece))) → after ≡ names → ((pos : Pos) → token_of pos piece ≡ []) → Seen names piece bytes after
  lex : (kind : Kind) (form : Form) → front_at bytes ≡ Some (Lexed form (length (text_of piece))) → HasKind names (text_of piece) kind after
      → ((pos : Pos) → token_of pos piece ≡ record { kind = kind; text = text_of piece; pos = pos } ∷ []) → Seen names piece bytes after

all_other : (inner : List ℕ) → AllByRecursion (λ b. b ≢ 10) inner → Passes other_byte inner
all_other [] h = tt
all_other (b ∷ bs) h = (not_from_false _ (ne_eqb b 10 h.0), all_other bs h.1)

ends_line : (rest : List ℕ) → EndsLine rest → NotNext other_byte rest
ends_line [] h = tt
ends_line (b ∷ bs) h = ap other_byte h

line_seen : (inner rest : List ℕ) → AllByRecursion (λ b. b ≢ 10) inner → EndsLine rest → front_at (47 ∷ 47 ∷ (inner ++ rest)) ≡ Some (Skipped (length (47 ∷ 47 ∷ inner)))
line_seen inner rest all ends =
    line_case (inner ++ rest) ∙ ap (λ k. Some (Skipped k)) (omega (arith, run_all other_byte inner rest (all_other inner all), run_none other_byte rest (ends_line rest ends)))

block_seen : (inner rest : List ℕ) → Closes 1 inner → front_at (47 ∷ 42 ∷ (inner ++ rest)) ≡ Some (Skipped (length (47 ∷ 42 ∷ inner)))
block_seen inner rest closes =
    block_case (inner ++ rest) ∙ ap (skips 2) (comment_again 0 0 inner rest (unused 0 inner closes)) ∙ ap (λ k. Some (Skipped k)) (omega arith)

pub lexeme_seen : (text rest : List ℕ) → IsLexeme text rest → IsLongest text rest → ¬ BeginsComment (text ++ rest) → (form : Form) × (front_at (text ++ rest) ≡ Some (Lexed form (length text)))
lexeme_seen text rest is longest comment =
    let bytes = text ++ rest in
    let f = furthest text rest is in
    let s = lexeme_sound bytes f.form f.n f.found in
    let le : length (take f.n bytes) ≤ length text = longest (take f.n bytes) (drop f.n bytes) (take-append-drop f.n bytes) (lexeme_of f.form (take f.n bytes) (drop f.n bytes) s.form_is s.follows) in
    let same : f.n ≡ length text = omega (arith, f.long, length-take-le f.n bytes s.within) in
    let no_blank : begins_blank bytes ≡ false = subst (λ (t : List ℕ). begins_blank t ≡ false) (take-append-drop f.n bytes)
    (blank_goes_on (take f.n bytes) (drop f.n bytes) (omega (arith, length-take-le f.n bytes s.within, s.some)) (form_no_blank f.form (take f.n bytes) s.form_is)) in
    (f.form, lexeme_case bytes no_blank comment ∙ ap lexes f.found ∙ ap (λ k. Some (Lexed f.form k)) same)

pub seen : (names : List (List ℕ)) (piece : Piece) (rest : List ℕ) (after : List (List ℕ)) → IsPiece names piece rest after → Seen names piece (text_of piece ++ rest) after
seen names (Blank b) rest after h = skip (blank_case b rest h.0) h.1 (λ pos. refl)
seen names (LineComment text) rest after ((inner, is, all), ends, kept) =
    skip (subst (λ (t : List ℕ). front_at (t ++ rest) ≡ Some (Skipped (length t))) (sym is) (line_seen inner rest all ends)) kept (λ pos. refl)
seen names (BlockComment text) rest after ((inner, is, closes), kept) =
    skip (subst (λ (t : List ℕ). front_at (t ++ rest) ≡ Some (Skipped (length t))) (sym is) (block_seen inner rest closes)) kept (λ pos. refl)
seen names (Lexeme kind text) rest after (is, longest, comment, has) =
    let p = lexeme_seen text rest is longest comment in
    lex kind p.0 p.1 has (λ pos. refl)

-- ---- there is no other

pub record Same (piece other : Piece) (rest more : List ℕ) (after last : List (List ℕ)) : Type 0 where
  pub text : text_of piece ≡ text_of other
  pub rest_is : rest ≡ more
  pub names : after ≡ last
  pub token : (pos : Pos) → token_of pos piece ≡ token_of pos other

skipped_is : (a b : ℕ) → Some (Skipped a) ≡ Some (Skipped b) → a ≡ b
skipped_is a b e = cc

lexed_is : (f g : Form) (a b : ℕ) → Some (Lexed f a) ≡ Some (Lexed g b) → a ≡ b
lexed_is f g a b e = cc

apart : (f : Form) (a b : ℕ) → Some (Skipped a) ≡ Some (Lexed f b) → ⊥
apart f a b e = cc

pub fronts_same : (text other rest more : List ℕ) → length text ≡ length other → text ++ rest ≡ other ++ more → (text ≡ other) × (rest ≡ more)
fronts_same text other rest more len e = (
  sym (take_at text rest (length text) refl) ∙ ap (take (length text)) e ∙ take_at other more (length text) (sym len),
  sym (drop_at text rest (length text) refl) ∙ ap (drop (length text)) e ∙ drop_at other more (length text) (sym len),
)

same_piece : (names : List (List ℕ)) (bytes : List ℕ) (piece other : Piece) (rest more : List ℕ) (after last : List (List ℕ))
    → bytes ≡ text_of piece ++ rest → bytes ≡ text_of other ++ more → Seen names piece bytes after → Seen names other bytes last → Same piece other rest more after last
same_piece names bytes piece other rest more after last e f (skip s kept t) (skip s' kept' t') =
    let p = fronts_same (text_of piece) (text_of other) rest more (skipped_is (length (text_of piece)) (length (text_of other)) (sym s ∙ s')) (sym e ∙ f) in
    record { text = p.0; rest_is = p.1; names = kept ∙ sym kept'; token = λ pos. t pos ∙ sym (t' pos) }
same_piece names bytes piece other rest more after last e f (skip s kept t) (lex kind form s' has t') = absurd (apart form (length (text_of piece)) (length (text_of other)) (sym s ∙ s'))
same_piece names bytes piece other rest more after last e f (lex kind form s has t) (skip s' kept' t') = absurd (apart form (length (text_of other)) (length (text_of piece)) (sym s' ∙ s))
same_piece names bytes piece other rest more after last e f (lex kind form s has t) (lex kind' form' s' has' t') =
    let p = fronts_same (text_of piece) (text_of other) rest more (lexed_is form form' (length (text_of piece)) (length (text_of other)) (sym s ∙ s')) (sym e ∙ f) in
    let k = one_kind names (text_of piece) kind kind' after last has (subst (λ (x : List ℕ). HasKind names x kind' last) (sym p.0) has') in
    let made : (pos : Pos) → token_of pos piece ≡ token_of pos other = λ pos.
    t pos ∙ ap (λ (x : Kind). record { kind = x; text = text_of piece; pos = pos } ∷ []) k.0 ∙ ap (λ (x : List ℕ). record { kind = kind'; text = x; pos = pos } ∷ []) p.0 ∙ sym (t' pos) in
    record { text = p.0; rest_is = p.1; names = k.1; token = made }

pub one_piece : (names : List (List ℕ)) (bytes : List ℕ) (piece other : Piece) (rest more : List ℕ) (after last : List (List ℕ))
    → bytes ≡ text_of piece ++ rest → bytes ≡ text_of other ++ more → IsPiece names piece rest after → IsPiece names other more last → Same piece other rest more after last
one_piece names bytes piece other rest more after last e f h g =
    same_piece names bytes piece other rest more after last e f
    (subst (λ (t : List ℕ). Seen names piece t after) (sym e) (seen names piece rest after h))
    (subst (λ (t : List ℕ). Seen names other t last) (sym f) (seen names other more last g))

-- ---- what is found is a piece

-- the rest of a run of other bytes ends the line
line_ends : (rest : List ℕ) → NotNext other_byte rest → EndsLine rest
line_ends [] h = tt
line_ends (b ∷ bs) h = eqb-true b 10 (not-false (eqb b 10) h)

others_all : (inner : List ℕ) → Passes other_byte inner → AllByRecursion (λ b. b ≢ 10) inner
others_all [] h = tt
others_all (b ∷ bs) h = (λ e. eqb-false b 10 (not-true (eqb b 10) h.0) e, others_all bs h.1)

next_of : (names : List (List ℕ)) (bytes : List ℕ) (pos : Pos) (n : ℕ) (piece : Piece) (rest : List ℕ) (after : List (List ℕ))
    → Parts bytes (text_of piece) rest n → 0 < n → IsPiece names piece rest after → NextPiece names bytes pos (token_of pos piece) n after
next_of names bytes pos n piece rest after parts some h =
    let e = Parts-drop bytes (text_of piece) rest n parts in
    record {
      piece = piece;
      is = subst (λ (t : List ℕ). bytes ≡ text_of piece ++ t) e parts.is;
      is_piece = subst (λ (t : List ℕ). IsPiece names piece t after) e h;
      len = parts.len;
      some = some;
      tokens_are = refl;
    }

blank_next : (names : List (List ℕ)) (bytes : List ℕ) (pos : Pos) → begins_blank bytes ≡ true → NextPiece names bytes pos [] 1 names
blank_next names [] pos h = absurd cc
blank_next names (b ∷ bs) pos h = next_of names (b ∷ bs) pos 1 (Blank b) bs names (record { is = refl; len = refl }) (omega arith) (h, refl)

line_next : (names : List (List ℕ)) (bytes : List ℕ) (pos : Pos) → starts_with nat_eq bytes (codes "//") ≡ true → NextPiece names bytes pos [] (2 + prefix_len other_byte (drop 2 bytes)) names
line_next names bytes pos h =
    let front : bytes ≡ 47 ∷ 47 ∷ drop 2 bytes = starts_front bytes (codes "//") h in
    let r = run_of other_byte (drop 2 bytes) in
    next_of names bytes pos (2 + prefix_len other_byte (drop 2 bytes)) (LineComment (47 ∷ 47 ∷ r.front)) r.rest names
    (record { is = front ∙ ap (λ (t : List ℕ). 47 ∷ 47 ∷ t) r.parts.is; len = omega (arith, r.parts.len) }) (omega arith)
    ((r.front, refl, others_all r.front r.passes), line_ends r.rest r.stops, refl)

block_next : (names : List (List ℕ)) (bytes : List ℕ) (pos : Pos) (k : ℕ) → starts_with nat_eq bytes (codes "/*") ≡ true → comment_len 0 0 (drop 2 bytes) ≡ Some k → NextPiece names bytes pos [] (2 + k) names
block_next names bytes pos k h e =
    let front : bytes ≡ 47 ∷ 42 ∷ drop 2 bytes = starts_front bytes (codes "/*") h in
    let r = comment_sound 0 0 (drop 2 bytes) k e in
    next_of names bytes pos (2 + k) (BlockComment (47 ∷ 42 ∷ r.inner)) r.rest names
    (record { is = front ∙ ap (λ (t : List ℕ). 47 ∷ 42 ∷ t) r.parts.is; len = omega (arith, r.parts.len) }) (omega arith)
    ((r.inner, refl, used 0 r.inner r.closes), refl)

skips_some : (o : Option ℕ) (n : ℕ) → skips 2 o ≡ Some (Skipped n) → (k : ℕ) × (o ≡ Some k) × (2 + k ≡ n)
skips_some None n e = absurd cc
skips_some (Some k) n e = (k, refl, skipped_is (2 + k) n e)

skips_no_lexeme : (o : Option ℕ) (form : Form) (n : ℕ) → skips 2 o ≡ Some (Lexed form n) → ⊥
skips_no_lexeme None form n e = cc
skips_no_lexeme (Some k) form n e = apart form (2 + k) n e

lexes_no_skip : (o : Option (Form × ℕ)) (n : ℕ) → lexes o ≡ Some (Skipped n) → ⊥
lexes_no_skip None n e = cc
lexes_no_skip (Some p) n e = apart p.0 n p.1 (sym e)

lexes_some : (o : Option (Form × ℕ)) (form : Form) (n : ℕ) → lexes o ≡ Some (Lexed form n) → o ≡ Some (form, n)
lexes_some None form n e = absurd cc
lexes_some (Some p) form n e = ap (λ (f : Form). Some (f, p.1)) (form_is p.0 form p.1 n e) ∙ ap (λ (k : ℕ). Some (form, k)) (lexed_is p.0 form p.1 n e)
  where
    form_is : (f g : Form) (a b : ℕ) → Some (Lexed f a) ≡ Some (Lexed g b) → f ≡ g
    form_is f g a b e = cc

-- the tests in turn: a blank, a line comment, a block comment, a lexeme
pub data Turn (bytes : List ℕ) (found : Option Front) : Type 0 where
  blank : begins_blank bytes ≡ true → Some (Skipped 1) ≡ found → Turn bytes found
  line : starts_with nat_eq bytes (codes "//") ≡ true → Some (Skipped (2 + prefix_len other_byte (drop 2 bytes))) ≡ found → Turn bytes found
  block : starts_with nat_eq bytes (codes "/*") ≡ true → skips 2 (comment_len 0 0 (drop 2 bytes)) ≡ found → Turn bytes found
  lexeme : begins_blank bytes ≡ false → starts_with nat_eq bytes (codes "//") ≡ false → starts_with nat_eq bytes (codes "/*") ≡ false → lexes (lexeme_at bytes) ≡ found → Turn bytes found

pub turn_of : (bytes : List ℕ) (found : Option Front) → front_at bytes ≡ found → Turn bytes found
unfolding front_at
turn_of bytes found h =
    let lexed = lexes (lexeme_at bytes) in
    let blocks = cond (starts_with nat_eq bytes (codes "/*")) (skips 2 (comment_len 0 0 (drop 2 bytes))) lexed in
    let lines = cond (starts_with nat_eq bytes (codes "//")) (Some (Skipped (2 + prefix_len other_byte (drop 2 bytes)))) blocks in
    elim (choice (begins_blank bytes) (Some (Skipped 1)) lines found h) [
      | inl p ↦ blank p.0 p.1
      | inr p ↦ elim (choice (starts_with nat_eq bytes (codes "//")) (Some (Skipped (2 + prefix_len other_byte (drop 2 bytes)))) blocks found p.1) [
        | inl q ↦ line q.0 q.1
        | inr q ↦ elim (choice (starts_with nat_eq bytes (codes "/*")) (skips 2 (comment_len 0 0 (drop 2 bytes))) lexed found q.1) [
          | inl r ↦ block r.0 r.1
          | inr r ↦ lexeme p.0 q.0 r.0 r.1
        ]
      ]
    ]

pub skip_next : (names : List (List ℕ)) (bytes : List ℕ) (pos : Pos) (n : ℕ) → front_at bytes ≡ Some (Skipped n) → NextPiece names bytes pos [] n names
skip_next names bytes pos n h = by (turn_of bytes (Some (Skipped n)) h)
  where
    by : Turn bytes (Some (Skipped n)) → NextPiece names bytes pos [] n names
    by (blank p e) = subst (λ k. NextPiece names bytes pos [] k names) (skipped_is 1 n e) (blank_next names bytes pos p)
    by (line p e) = subst (λ k. NextPiece names bytes pos [] k names) (skipped_is (2 + prefix_len other_byte (drop 2 bytes)) n e) (line_next names bytes pos p)
    by (block p e) = let k = skips_some (comment_len 0 0 (drop 2 bytes)) n e in subst (λ k. NextPiece names bytes pos [] k names) k.2 (block_next names bytes pos k.0 p k.1)
    by (lexeme b p q e) = absurd (lexes_no_skip (lexeme_at bytes) n e)

pub no_comment : (bytes : List ℕ) → starts_with nat_eq bytes (codes "//") ≡ false → starts_with nat_eq bytes (codes "/*") ≡ false → ¬ BeginsComment bytes
no_comment bytes p q (b, rest, is, inl e) = both_ways _ p (ap (λ (t : List ℕ). starts_with nat_eq t (codes "//")) (is ∙ ap (λ (x : ℕ). 47 ∷ x ∷ rest) e))
no_comment bytes p q (b, rest, is, inr e) = both_ways _ q (ap (λ (t : List ℕ). starts_with nat_eq t (codes "/*")) (is ∙ ap (λ (x : ℕ). 47 ∷ x ∷ rest) e))

-- the lexeme that is found, before any kind is known
pub record NextLexeme (bytes : List ℕ) (form : Form) (n : ℕ) : Type 0 where
  pub within : n ≤ length bytes
  pub some : 0 < n
  pub form_is : HasForm form (take n bytes)
  pub is : IsLexeme (take n bytes) (drop n bytes)
  pub longest : IsLongest (take n bytes) (drop n bytes)
  pub comment : ¬ BeginsComment (take n bytes ++ drop n bytes)

pub lex_next : (bytes : List ℕ) (form : Form) (n : ℕ) → front_at bytes ≡ Some (Lexed form n) → NextLexeme bytes form n
lex_next bytes form n h = by (turn_of bytes (Some (Lexed form n)) h)
  where
    n_is : (f g : Form) (a b : ℕ) → ◌≡◌ {A = Option (Form × ℕ)} (Some (f, a)) (Some (g, b)) → a ≡ b
    n_is f g a b e = (some_pair_parts f g a b e).1

    by : Turn bytes (Some (Lexed form n)) → NextLexeme bytes form n
    by (blank p e) = absurd (apart form 1 n e)
    by (line p e) = absurd (apart form (2 + prefix_len other_byte (drop 2 bytes)) n e)
    by (block p e) = absurd (skips_no_lexeme (comment_len 0 0 (drop 2 bytes)) form n e)
    by (lexeme b p q e) =
        let found = lexes_some (lexeme_at bytes) form n e in
        let s = lexeme_sound bytes form n found in
        let whole : take n bytes ++ drop n bytes ≡ bytes = take-append-drop n bytes in
        record {
          within = s.within;
          some = s.some;
          form_is = s.form_is;
          is = lexeme_of form (take n bytes) (drop n bytes) s.form_is s.follows;
          longest = λ other more joined is.
              let f = furthest other more is in
              let same : f.n ≡ n = n_is f.form form f.n n (sym f.found ∙ ap lexeme_at (joined ∙ whole) ∙ found) in
              omega (arith, f.long, length-take-le n bytes s.within);
          comment = subst (λ (t : List ℕ). ¬ BeginsComment t) (sym whole) (no_comment bytes p q);
        }

-- with a kind it is the next piece
pub lexeme_next : (names : List (List ℕ)) (bytes : List ℕ) (pos : Pos) (form : Form) (n : ℕ) (kind : Kind) (after : List (List ℕ)) → NextLexeme bytes form n → HasKind names (take n bytes) kind after
    → NextPiece names bytes pos (record { kind = kind; text = take n bytes; pos = pos } ∷ []) n after
lexeme_next names bytes pos form n kind after r has =
    next_of names bytes pos n (Lexeme kind (take n bytes)) (drop n bytes) after (record { is = sym (take-append-drop n bytes); len = length-take-le n bytes r.within }) r.some (r.is, r.longest, r.comment, has)

-- where nothing is found no piece stands
pub nothing_next : (names : List (List ℕ)) (bytes : List ℕ) → front_at bytes ≡ None → NoPiece names bytes
nothing_next names bytes h piece rest after is p = by (subst (λ (t : List ℕ). Seen names piece t after) (sym is) (seen names piece rest after p))
  where
    by : Seen names piece bytes after → ⊥
    by (skip s kept t) = none-some (Skipped (length (text_of piece))) (sym h ∙ s)
    by (lex kind form s has t) = none-some (Lexed form (length (text_of piece))) (sym h ∙ s)

-- where the lexeme that is found has no kind no piece stands
pub no_kind_next : (names : List (List ℕ)) (bytes : List ℕ) (form : Form) (n : ℕ) → front_at bytes ≡ Some (Lexed form n) → ((kind : Kind) (after : List (List ℕ)) → HasKind names (take n bytes) kind after → ⊥) → NoPiece names bytes
no_kind_next names bytes form n h no_kind piece rest after is p = by (subst (λ (t : List ℕ). Seen names piece t after) (sym is) (seen names piece rest after p))
  where
    by : Seen names piece bytes after → ⊥
    by (skip s kept t) = apart form (length (text_of piece)) n (sym s ∙ h)
    by (lex kind other s has t) =
        let len = lexed_is other form (length (text_of piece)) n (sym s ∙ h) in
        no_kind kind after (subst (λ (t : List ℕ). HasKind names t kind after) (Parts-take bytes (text_of piece) rest n (record { is = is; len = len })) has)

-- no piece is empty
pub no_piece_of_nothing : (names : List (List ℕ)) (piece : Piece) (rest : List ℕ) (after : List (List ℕ)) → text_of piece ++ rest ≡ [] → IsPiece names piece rest after → ⊥
unfolding front_at
no_piece_of_nothing names piece rest after e h = nothing_next names [] nothing_at piece rest after (sym e) h
  where
    nothing_at : front_at [] ≡ None
    nothing_at = refl
