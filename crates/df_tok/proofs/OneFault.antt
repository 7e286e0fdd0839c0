-- A source has at most one first fault.
use Rattle.std.proofs.Common.{◌≡◌, ℕ, ◌+◌, ◌<◌, ◌≤◌, inr, List, [], ◌∷◌, ◌++◌, length, take, refl, sym, ap, subst, ◌∙◌, arith}
use Rattle.std.specs.Prelude.{nat_le, ◌^◌}
use Rattle.std.proofs.lemmas.Bool.{le-leb, both_ways}
use Rattle.std.proofs.lemmas.List.{length-append, take_at}
use Rattle.df_base.specs.declared.pos.Pos.{Pos}
use Rattle.df_base.specs.declared.refusal.Refusal.{Refusal}
use Rattle.df_base.specs.declared.refusal.Code.TheVariants as tags
use Rattle.df_base.specs.declared.refusal.Detail.TheVariants.{Nothing}
use Rattle.df_tok.specs.declared.token.Kind.{Kind}
use Rattle.df_tok.specs.Lexeme.{NotNext, IsNumber, value_of_number, IsLexeme}
use Rattle.df_tok.specs.Token.{Token, HasKind}
use Rattle.df_tok.specs.Division.{after_bytes, start, BeginsComment, IsLongest, Piece, Lexeme, text_of, IsPiece, tokens_of}
use Rattle.df_tok.specs.Fault.{refusal, Stops, NothingBegins, IsUnclosed, IsRefusedAt, number, many, unclosed, byte, token, IsFront, after_pieces, IsFault, long, stop}
use Rattle.df_tok.specs.Steps.{token_of}
use Rattle.df_tok.specs.Scanning.{front_at}
use Rattle.df_tok.proofs.OneKind.{number_small}
use Rattle.df_tok.proofs.Pieces.{lexeme_seen, nothing_next, no_kind_next, fronts_same, Same, one_piece}
use Rattle.df_tok.proofs.Divisions.{tokens_cons}
use Rattle.df_tok.proofs.Faults.{no_piece_begins, unclosed_none}
use Rattle.df_tok.specs.Limits.{token_limit}

-- ---- one refusal at a position

-- two lexemes at one position, of which none is longer
same_lexeme : (rest text more other last : List ℕ) → rest ≡ text ++ more → rest ≡ other ++ last → IsLexeme text more → IsLexeme other last → IsLongest text more → IsLongest other last → text ≡ other
same_lexeme rest text more other last is is' lex lex' longest longest' =
    let le = longest other last (sym is' ∙ is) lex' in
    let ge = longest' text more (sym is ∙ is') lex in
    (fronts_same text other more last (omega arith) (sym is ∙ is')).0

-- no kind has a number that is too large
no_large : (names : List (List ℕ)) (rest text more other last : List ℕ) (kind : Kind) (after : List (List ℕ)) → rest ≡ text ++ more → rest ≡ other ++ last → IsLexeme text more → IsLongest text more → IsNumber text
    → 2 ^ 127 ≤ value_of_number text → IsPiece names (Lexeme kind other) last after → ⊥
no_large names rest text more other last kind after is is' lex longest num value p =
    let same = same_lexeme rest text more other last is is' lex p.0 longest p.1 in
    let small = number_small names text kind after num (subst (λ (t : List ℕ). HasKind names t kind after) (sym same) p.3) in
    omega (arith, value, small)

-- where a comment begins no token stands
comment_apart : (rest text more : List ℕ) → IsUnclosed rest → rest ≡ text ++ more → ¬ BeginsComment (text ++ more) → ⊥
comment_apart rest text more h is none = none (42, h.0, sym is ∙ h.1, inr refl)

nothing_apart : (rest : List ℕ) → IsUnclosed rest → NothingBegins rest → ⊥
nothing_apart rest h none = none.comment (42, h.0, h.1, inr refl)

pub same_stop : (rest front behind other last : List ℕ) → Stops rest front behind → Stops rest other last → (front ≡ other) × (behind ≡ last)
same_stop rest front behind other last s s' =
    let le = s.longest other last s'.is s'.begun in
    let ge = s'.longest front behind s.is s.begun in
    fronts_same front other behind last (omega arith) (sym s.is ∙ s'.is)

high_apart : (b : ℕ) (behind last : List ℕ) → b ∷ behind ≡ last → 128 ≤ b → NotNext (nat_le 128) last → ⊥
high_apart b behind last e high low = both_ways (nat_le 128 b) (subst (NotNext (nat_le 128)) (sym e) low) (le-leb 128 b high)

pub one_refused : (names : List (List ℕ)) (rest : List ℕ) (pos : Pos) (count : ℕ) (r other : Refusal) → IsRefusedAt names rest pos count r → IsRefusedAt names rest pos count other → r ≡ other
one_refused names rest pos count r other (number text more is lex longest comment num value e) (number text' more' is' lex' longest' comment' num' value' e') = e ∙ sym e'
one_refused names rest pos count r other (number text more is lex longest comment num value e) (many kind text' more' after is' p c e') = absurd (no_large names rest text more text' more' kind after is is' lex longest num value p)
one_refused names rest pos count r other (number text more is lex longest comment num value e) (unclosed h e') = absurd (comment_apart rest text more h is comment)
one_refused names rest pos count r other (number text more is lex longest comment num value e) (byte h front b behind s high e') = absurd (h.lexeme text more is lex)
one_refused names rest pos count r other (number text more is lex longest comment num value e) (token h front behind s low e') = absurd (h.lexeme text more is lex)
one_refused names rest pos count r other (many kind text' more' after is' p c e') (number text more is lex longest comment num value e) = absurd (no_large names rest text more text' more' kind after is is' lex longest num value p)
one_refused names rest pos count r other (many kind text more after is p c e) (many kind' text' more' after' is' p' c' e') = e ∙ sym e'
one_refused names rest pos count r other (many kind text more after is p c e) (unclosed h e') = absurd (comment_apart rest text more h is p.2)
one_refused names rest pos count r other (many kind text more after is p c e) (byte h front b behind s high e') = absurd (h.lexeme text more is p.0)
one_refused names rest pos count r other (many kind text more after is p c e) (token h front behind s low e') = absurd (h.lexeme text more is p.0)
one_refused names rest pos count r other (unclosed h e) (number text more is lex longest comment num value e') = absurd (comment_apart rest text more h is comment)
one_refused names rest pos count r other (unclosed h e) (many kind text more after is p c e') = absurd (comment_apart rest text more h is p.2)
one_refused names rest pos count r other (unclosed h e) (unclosed h' e') = e ∙ sym e'
one_refused names rest pos count r other (unclosed h e) (byte h' front b behind s high e') = absurd (nothing_apart rest h h')
one_refused names rest pos count r other (unclosed h e) (token h' front behind s low e') = absurd (nothing_apart rest h h')
one_refused names rest pos count r other (byte h front b behind s high e) (number text more is lex longest comment num value e') = absurd (h.lexeme text more is lex)
one_refused names rest pos count r other (byte h front b behind s high e) (many kind text more after is p c e') = absurd (h.lexeme text more is p.0)
one_refused names rest pos count r other (byte h front b behind s high e) (unclosed h' e') = absurd (nothing_apart rest h' h)
one_refused names rest pos count r other (byte h front b behind s high e) (byte h' front' b' behind' s' high' e') =
    e ∙ ap (λ (t : List ℕ). refusal tags.Byte (after_bytes pos t) Nothing) (same_stop rest front (b ∷ behind) front' (b' ∷ behind') s s').0 ∙ sym e'
one_refused names rest pos count r other (byte h front b behind s high e) (token h' front' behind' s' low e') =
    absurd (high_apart b behind behind' (same_stop rest front (b ∷ behind) front' behind' s s').1 high low)
one_refused names rest pos count r other (token h front behind s low e) (number text more is lex longest comment num value e') = absurd (h.lexeme text more is lex)
one_refused names rest pos count r other (token h front behind s low e) (many kind text more after is p c e') = absurd (h.lexeme text more is p.0)
one_refused names rest pos count r other (token h front behind s low e) (unclosed h' e') = absurd (nothing_apart rest h' h)
one_refused names rest pos count r other (token h front behind s low e) (byte h' front' b behind' s' high e') =
    absurd (high_apart b behind' behind (same_stop rest front' (b ∷ behind') front behind s' s).1 high low)
one_refused names rest pos count r other (token h front behind s low e) (token h' front' behind' s' low' e') = e ∙ sym e'

-- ---- a refused rest ends the front before it

-- where a piece stands at a rest that is refused, its token is one too many
goes_no_further : (names : List (List ℕ)) (rest : List ℕ) (pos : Pos) (count : ℕ) (r : Refusal) (at : Pos) (piece : Piece) (next : List ℕ) (between : List (List ℕ))
    → IsRefusedAt names rest pos count r → rest ≡ text_of piece ++ next → IsPiece names piece next between → token_limit < count + length (token_of at piece)
goes_no_further names rest pos count r at piece next between (number text more is lex longest comment num value e) reads h =
    let f = lexeme_seen text more lex longest comment in
    let taken : take (length text) rest ≡ text = ap (take (length text)) is ∙ take_at text more (length text) refl in
    absurd (no_kind_next names rest f.0 (length text) (ap front_at is ∙ f.1) (λ kind after has.
    absurd (omega (arith, value, number_small names text kind after num (subst (λ (t : List ℕ). HasKind names t kind after) taken has)))) piece next between reads h)
goes_no_further names rest pos count r at piece next between (many kind text more after is p c e) reads h =
    let s = one_piece names rest (Lexeme kind text) piece more next after between is reads p h in
    omega (arith, c, ap length (s.token at))
goes_no_further names rest pos count r at piece next between (unclosed h' e) reads h = absurd (nothing_next names rest (unclosed_none rest h') piece next between reads h)
goes_no_further names rest pos count r at piece next between (byte h' front b behind s high e) reads h = absurd (no_piece_begins names rest h' piece next between reads h)
goes_no_further names rest pos count r at piece next between (token h' front behind s low e) reads h = absurd (no_piece_begins names rest h' piece next between reads h)

-- a piece stands at the rest of a front with so many tokens, and the other front has its token too
record GoesOn (rest : List ℕ) (names : List (List ℕ)) (count most : ℕ) : Type 0 where
  at : Pos
  piece : Piece
  next : List ℕ
  between : List (List ℕ)
  is : rest ≡ text_of piece ++ next
  is_piece : IsPiece names piece next between
  counted : count + length (token_of at piece) ≤ most

no_further : (names : List (List ℕ)) (rest : List ℕ) (pos : Pos) (count most : ℕ) (r : Refusal) → IsRefusedAt names rest pos count r → GoesOn rest names count most → most ≤ token_limit → ⊥
no_further names rest pos count most r h g few =
    omega (arith, g.counted, few, goes_no_further names rest pos count r g.at g.piece g.next g.between h g.is g.is_piece)

-- of two fronts of one source, from a position on, one goes on to the other
data Meets (pos : Pos) (pieces others : List Piece) (rest more : List ℕ) (names last : List (List ℕ)) : Type 0 where
  same : rest ≡ more → names ≡ last → after_pieces pos pieces ≡ after_pieces pos others → length (tokens_of pos pieces) ≡ length (tokens_of pos others) → Meets pos pieces others rest more names last
  shorter : GoesOn rest names (length (tokens_of pos pieces)) (length (tokens_of pos others)) → Meets pos pieces others rest more names last
  longer : GoesOn more last (length (tokens_of pos others)) (length (tokens_of pos pieces)) → Meets pos pieces others rest more names last

count_cons : (pos : Pos) (piece : Piece) (pieces : List Piece) → length (tokens_of pos (piece ∷ pieces)) ≡ length (token_of pos piece) + length (tokens_of (after_bytes pos (text_of piece)) pieces)
count_cons pos piece pieces = ap length (tokens_cons pos piece pieces) ∙ length-append (token_of pos piece) (tokens_of (after_bytes pos (text_of piece)) pieces)

one_more : (rest : List ℕ) (names : List (List ℕ)) (pos : Pos) (piece : Piece) (pieces : List Piece) (next : List ℕ) (between : List (List ℕ)) → rest ≡ text_of piece ++ next → IsPiece names piece next between
    → GoesOn rest names 0 (length (tokens_of pos (piece ∷ pieces)))
one_more rest names pos piece pieces next between is h = record {
  at = pos;
  piece = piece;
  next = next;
  between = between;
  is = is;
  is_piece = h;
  counted = omega (arith, count_cons pos piece pieces);
}

further : (rest : List ℕ) (names : List (List ℕ)) (n m count most : ℕ) (k : ℕ) → GoesOn rest names n m → count ≡ k + n → most ≡ k + m → GoesOn rest names count most
further rest names n m count most k g e f = record {
  at = g.at;
  piece = g.piece;
  next = g.next;
  between = g.between;
  is = g.is;
  is_piece = g.is_piece;
  counted = omega (arith, g.counted, e, f);
}

-- with the same piece before both
with_piece : (pos : Pos) (piece other : Piece) (pieces others : List Piece) (next left : List ℕ) (between after : List (List ℕ)) (rest more : List ℕ) (names last : List (List ℕ)) → Same piece other next left between after
    → Meets (after_bytes pos (text_of piece)) pieces others rest more names last → Meets pos (piece ∷ pieces) (other ∷ others) rest more names last
with_piece pos piece other pieces others next left between after rest more names last s m = by m
  where
    there : Pos
    there = after_bytes pos (text_of piece)

    count : length (tokens_of pos (other ∷ others)) ≡ length (token_of pos piece) + length (tokens_of (after_bytes pos (text_of piece)) others)
    count =
        count_cons pos other others ∙ ap (λ (t : List Token). length t + length (tokens_of (after_bytes pos (text_of other)) others)) (sym (s.token pos))
        ∙ ap (λ (t : List ℕ). length (token_of pos piece) + length (tokens_of (after_bytes pos t) others)) (sym s.text)

    by : Meets (after_bytes pos (text_of piece)) pieces others rest more names last → Meets pos (piece ∷ pieces) (other ∷ others) rest more names last
    by (same is kept at tokens) =
        same is kept (at ∙ ap (λ (t : List ℕ). after_pieces (after_bytes pos t) others) s.text) (omega (arith, tokens, count, count_cons pos piece pieces))
    by (shorter g) = shorter (further rest names _ _ _ _ (length (token_of pos piece)) g (count_cons pos piece pieces) count)
    by (longer g) = longer (further more last _ _ _ _ (length (token_of pos piece)) g count (count_cons pos piece pieces))

meet : (pos : Pos) (before : List (List ℕ)) (source : List ℕ) (pieces others : List Piece) (rest more : List ℕ) (names last : List (List ℕ))
    → IsFront before source pieces rest names → IsFront before source others more last → Meets pos pieces others rest more names last
meet pos before source [] [] rest more names last (is, kept) (is', kept') = same (sym is ∙ is') (kept ∙ sym kept') refl refl
meet pos before source [] (piece ∷ others) rest more names last (is, kept) (n, b, is', first, reached) =
    shorter (one_more rest names pos piece others n b (sym is ∙ is') (subst (λ (x : List (List ℕ)). IsPiece x piece n b) (sym kept) first))
meet pos before source (piece ∷ pieces) [] rest more names last (n, b, is, first, reached) (is', kept') =
    longer (one_more more last pos piece pieces n b (sym is' ∙ is) (subst (λ (x : List (List ℕ)). IsPiece x piece n b) (sym kept') first))
meet pos before source (piece ∷ pieces) (other ∷ others) rest more names last (n, b, is, first, reached) (n', b', is', first', reached') =
    let s = one_piece before source piece other n n' b b' is is' first first' in
    let f : IsFront b n others more last = subst (λ (t : List ℕ). IsFront b t others more last) (sym s.rest_is) (subst (λ (x : List (List ℕ)). IsFront x n' others more last) (sym s.names) reached') in
    with_piece pos piece other pieces others n n' b b' rest more names last s (meet (after_bytes pos (text_of piece)) b n pieces others rest more names last reached f)

-- a source has one first fault
pub one_fault : (before : List (List ℕ)) (source : List ℕ) (r other : Refusal) → IsFault before source r → IsFault before source other → r ≡ other
one_fault before source r other (long more e) (long more' e') = e ∙ sym e'
one_fault before source r other (long more e) (stop small pieces rest names reaches few h) = absurd (omega arith)
one_fault before source r other (stop small pieces rest names reaches few h) (long more e) = absurd (omega arith)
one_fault before source r other (stop small pieces rest names reaches few h) (stop small' others more last reaches' few' h') = by (meet start before source pieces others rest more names last reaches reaches')
  where
    by : Meets start pieces others rest more names last → r ≡ other
    by (same is kept at count) =
        let a = subst (λ (x : List (List ℕ)). IsRefusedAt x more (after_pieces start others) (length (tokens_of start others)) other) (sym kept) h' in
        let b = subst (λ (t : List ℕ). IsRefusedAt names t (after_pieces start others) (length (tokens_of start others)) other) (sym is) a in
        let c = subst (λ (p : Pos). IsRefusedAt names rest p (length (tokens_of start others)) other) (sym at) b in
        one_refused names rest (after_pieces start pieces) (length (tokens_of start pieces)) r other h (subst (λ (k : ℕ). IsRefusedAt names rest (after_pieces start pieces) k other) (sym count) c)
    by (shorter g) = absurd (no_further names rest (after_pieces start pieces) (length (tokens_of start pieces)) (length (tokens_of start others)) r h g few')
    by (longer g) = absurd (no_further last more (after_pieces start others) (length (tokens_of start others)) (length (tokens_of start pieces)) other h' g few)
