-- The refusal that is given is the first fault, and a source with a fault has no division within the limits.
use Rattle.std.proofs.Common.{◌≡◌, ◌≢◌, ℕ, ◌+◌, ◌-◌, ◌<◌, ◌≤◌, inl, inr, true, false, List, [], ◌∷◌, ◌++◌, length, take, drop, Option, Some, None, refl, sym, ap, subst, ◌∙◌, arith}
use Rattle.std.specs.Prelude.{nat_eq, nat_le, codes}
use Rattle.std.specs.List.{starts_with}
use Rattle.std.proofs.lemmas.Bool.{cases_Bool, leb-true, both_ways}
use Rattle.df_base.specs.declared.pos.Pos.{Pos}
use Rattle.df_base.specs.declared.refusal.Refusal.{Refusal}
use Rattle.df_tok.specs.Byte.{is_blank}
use Rattle.df_tok.specs.declared.scan.Form.{Form}
use Rattle.df_tok.specs.declared.scan.Front.TheVariants.{Skipped, Lexeme as Lexed}
use Rattle.df_tok.specs.Lexeme.{NotNext}
use Rattle.df_tok.specs.Token.{Token, HasKind}
use Rattle.df_tok.specs.Division.{start, Blank, LineComment, BlockComment, Lexeme, tokens_of, Divides}
use Rattle.df_tok.specs.Fault.{Stops, NothingBegins, IsUnclosed, IsRefusedAt, number, many, unclosed, byte, token, after_pieces, IsFault, long, stop}
use Rattle.df_tok.specs.Scanning.{front_at, comment_len, skips, lexes, lexeme_at, begins_blank, begun_at, is_high, fault_at}
use Rattle.df_tok.specs.Steps.{CannotAdd, large, full, NoPiece, Exceeds}
use Rattle.df_tok.proofs.Lists.{starts_front}
use Rattle.df_tok.proofs.Comments.{unused, used, comment_again, comment_sound}
use Rattle.std.proofs.lemmas.List.{take-append-drop, take_at}
use Rattle.df_tok.proofs.Outsides.{some_length}
use Rattle.df_tok.proofs.Lexemes.{furthest}
use Rattle.df_tok.proofs.OneKind.{number_small}
use Rattle.df_tok.proofs.Pieces.{Turn, blank, line, block, lexeme, turn_of, no_comment, block_case, lex_next, lexeme_next, lexeme_seen, nothing_next, no_kind_next}
use Rattle.df_tok.proofs.Divisions.{Progress, progress_exceeds, no_piece_exceeds, token_exceeds}
use Rattle.df_tok.proofs.Begins.{NoLexeme, stops_at}
use Rattle.df_tok.specs.Limits.{token_limit, byte_limit}

-- ---- where no piece is found

some_is_none : {A : Type 0} (x : A) → Some x ≡ None → ⊥
some_is_none x e = cc

skips_none : (o : Option ℕ) → skips 2 o ≡ None → o ≡ None
skips_none None e = refl
skips_none (Some k) e = absurd (some_is_none (Skipped (2 + k)) e)

lexes_none : (o : Option (Form × ℕ)) → lexes o ≡ None → o ≡ None
lexes_none None e = refl
lexes_none (Some p) e = absurd (some_is_none (Lexed p.0 p.1) e)

unclosed_from : (rest : List ℕ) → starts_with nat_eq rest (codes "/*") ≡ true → comment_len 0 0 (drop 2 rest) ≡ None → IsUnclosed rest
unclosed_from rest h e = (
  drop 2 rest,
  starts_front rest (codes "/*") h,
  λ front more is closes.
      let found : comment_len 0 0 (drop 2 rest) ≡ Some (length front) = ap (comment_len 0 0) is ∙ comment_again 0 0 front more (unused 0 front closes) in
      some_is_none (length front) (sym found ∙ e),
)

no_lexeme : (rest : List ℕ) → lexeme_at rest ≡ None → NoLexeme rest
no_lexeme rest h text more is lex =
    let f = furthest text more lex in
    some_is_none (f.form, f.n) (sym f.found ∙ ap lexeme_at (sym is) ∙ h)

no_blank : (rest : List ℕ) → begins_blank rest ≡ false → NotNext is_blank rest
no_blank [] h = tt
no_blank (b ∷ bs) h = h

not_high : (bytes : List ℕ) → is_high bytes ≡ false → NotNext (nat_le 128) bytes
not_high [] h = tt
not_high (b ∷ bs) h = h

-- a byte of 128 or more, and what follows it
high_byte : (bytes : List ℕ) → is_high bytes ≡ true → (b : ℕ) × (behind : List ℕ) × (bytes ≡ b ∷ behind) × (128 ≤ b)
high_byte [] h = absurd cc
high_byte (b ∷ bs) h = (b, bs, refl, leb-true 128 b h)

begins_from : (names : List (List ℕ)) (rest : List ℕ) (pos : Pos) (count : ℕ) → starts_with nat_eq rest (codes "/*") ≡ false → NothingBegins rest → IsRefusedAt names rest pos count (fault_at pos rest)
begins_from names rest pos count open_none h =
    let s = stops_at rest h.lexeme in
    let n = begun_at rest in
    elim (cases_Bool (is_high (drop n rest))) [
      | inl e ↦
          let b = high_byte (drop n rest) e in
          byte h (take n rest) b.0 b.1 (subst (Stops rest (take n rest)) b.2 s) b.3 (rw (open_none, e) refl)
      | inr e ↦ token h (take n rest) (drop n rest) s (not_high (drop n rest) e) (rw (open_none, e) refl)
    ]

-- the refusal that is given where no piece is found
pub fault_from : (names : List (List ℕ)) (rest : List ℕ) (pos : Pos) (count : ℕ) → 0 < length rest → front_at rest ≡ None → IsRefusedAt names rest pos count (fault_at pos rest)
fault_from names rest pos count some h = by (turn_of rest None h)
  where
    by : Turn rest None → IsRefusedAt names rest pos count (fault_at pos rest)
    by (blank p e) = absurd (some_is_none _ e)
    by (line p e) = absurd (some_is_none _ e)
    by (block p e) = unclosed (unclosed_from rest p (skips_none (comment_len 0 0 (drop 2 rest)) e)) (rw p refl)
    by (lexeme b p q e) = begins_from names rest pos count q (record {
      some = λ empty. absurd (omega (arith, ap length empty));
      blank = no_blank rest b;
      comment = no_comment rest p q;
      lexeme = no_lexeme rest (lexes_none (lexeme_at rest) e);
    })

-- ---- where a token is found that cannot be added

pub cannot_from : (names : List (List ℕ)) (rest : List ℕ) (pos : Pos) (form : Form) (n count : ℕ) (r : Refusal) → front_at rest ≡ Some (Lexed form n) → CannotAdd names (take n rest) pos count r → IsRefusedAt names rest pos count r
cannot_from names rest pos form n count r h (large is value e) =
    let l = lex_next rest form n h in
    number (take n rest) (drop n rest) (sym (take-append-drop n rest)) l.is l.longest l.comment is value e
cannot_from names rest pos form n count r h (full kind after has c e) =
    let l = lex_next rest form n h in
    many kind (take n rest) (drop n rest) after (sym (take-append-drop n rest)) (l.is, l.longest, l.comment, has) c e

-- ---- a refusal excludes a division

pub no_piece_begins : (names : List (List ℕ)) (rest : List ℕ) → NothingBegins rest → NoPiece names rest
no_piece_begins names rest h (Blank b) more after is p = both_ways (is_blank b) (subst (NotNext is_blank) is h.blank) p.0
no_piece_begins names rest h (LineComment text) more after is ((inner, t, all), ends, kept) =
    h.comment (47, inner ++ more, is ∙ ap (λ (x : List ℕ). x ++ more) t, inl refl)
no_piece_begins names rest h (BlockComment text) more after is ((inner, t, closes), kept) =
    h.comment (42, inner ++ more, is ∙ ap (λ (x : List ℕ). x ++ more) t, inr refl)
no_piece_begins names rest h (Lexeme kind text) more after is p = h.lexeme text more is p.0

pub unclosed_none : (rest : List ℕ) → IsUnclosed rest → front_at rest ≡ None
unclosed_none rest (inner, is, h) = ap front_at is ∙ block_case inner ∙ ap (skips 2) (by (comment_len 0 0 inner) refl)
  where
    by : (o : Option ℕ) → comment_len 0 0 inner ≡ o → comment_len 0 0 inner ≡ None
    by None e = e
    by (Some k) e = let c = comment_sound 0 0 inner k e in absurd (h c.inner c.rest c.parts.is (used 0 c.inner c.closes))

refused_exceeds : (names : List (List ℕ)) (rest : List ℕ) (pos : Pos) (count : ℕ) (r : Refusal) → IsRefusedAt names rest pos count r → Exceeds names rest (token_limit - count)
refused_exceeds names rest pos count r (number text more is lex longest comment num value e) =
    let f = lexeme_seen text more lex longest comment in
    let found : front_at rest ≡ Some (Lexed f.0 (length text)) = ap front_at is ∙ f.1 in
    let l = lex_next rest f.0 (length text) found in
    let taken : take (length text) rest ≡ text = ap (take (length text)) is ∙ take_at text more (length text) refl in
    no_piece_exceeds names rest (token_limit - count) (omega (arith, l.some, l.within))
    (no_kind_next names rest f.0 (length text) found (λ kind after has.
    absurd (omega (arith, value, number_small names text kind after num (subst (λ (t : List ℕ). HasKind names t kind after) taken has)))))
refused_exceeds names rest pos count r (many kind text more after is p c e) =
    let f = lexeme_seen text more p.0 p.1 p.2 in
    let found : front_at rest ≡ Some (Lexed f.0 (length text)) = ap front_at is ∙ f.1 in
    let l = lex_next rest f.0 (length text) found in
    let taken : take (length text) rest ≡ text = ap (take (length text)) is ∙ take_at text more (length text) refl in
    let none : 0 ≡ token_limit - count = omega arith in
    let next = lexeme_next names rest start f.0 (length text) kind after l (subst (λ (t : List ℕ). HasKind names t kind after) (sym taken) p.3) in
    subst (Exceeds names rest) none (token_exceeds names rest start _ (length text) after (omega (arith, l.some, l.within)) next)
refused_exceeds names rest pos count r (unclosed h e) = no_piece_exceeds names rest (token_limit - count) (omega (arith, ap length h.1)) (nothing_next names rest (unclosed_none rest h))
refused_exceeds names rest pos count r (byte h front b behind s high e) = no_piece_exceeds names rest (token_limit - count) (some_length rest h.some) (no_piece_begins names rest h)
refused_exceeds names rest pos count r (token h front behind s low e) = no_piece_exceeds names rest (token_limit - count) (some_length rest h.some) (no_piece_begins names rest h)

-- a source with a fault has no division within the limits
pub fault_excludes : (before : List (List ℕ)) (source : List ℕ) (r : Refusal) (all : List Token) (after : List (List ℕ)) → IsFault before source r → Divides before source all after → length source ≤ byte_limit → length all ≤ token_limit → ⊥
fault_excludes before source r all after (long more e) d within few = absurd (omega arith)
fault_excludes before source r all after (stop small pieces rest names reaches count h) d within few =
    let p : Progress before source (tokens_of start pieces) rest (after_pieces start pieces) names = record { pieces = pieces; reaches = reaches; tokens_are = refl; pos_is = refl } in
    let n = progress_exceeds before source (tokens_of start pieces) rest (after_pieces start pieces) names (token_limit - length (tokens_of start pieces)) p (refused_exceeds names rest (after_pieces start pieces) (length (tokens_of start pieces)) r h) all after d in
    absurd (omega arith)

-- a refusal where a loop has come to is the first fault
pub fault_there : (before : List (List ℕ)) (source : List ℕ) (tokens : List Token) (rest : List ℕ) (pos : Pos) (names : List (List ℕ)) (count : ℕ) (r : Refusal)
    → Progress before source tokens rest pos names → count ≡ length tokens → count ≤ token_limit → length source ≤ byte_limit → IsRefusedAt names rest pos count r → IsFault before source r
fault_there before source tokens rest pos names count r p c few small h =
    let n : count ≡ length (tokens_of start p.pieces) = c ∙ ap length p.tokens_are in
    stop small p.pieces rest names p.reaches (omega (arith, n))
    (subst (λ (k : ℕ). IsRefusedAt names rest (after_pieces start p.pieces) k r) n (subst (λ (at : Pos). IsRefusedAt names rest at count r) p.pos_is h))
