-- Divisions of a source: a front of it, and what is left.
use Rattle.std.proofs.Common.{◌≡◌, ℕ, ◌+◌, ◌<◌, ◌≤◌, List, [], ◌∷◌, ◌++◌, length, take, drop, cond, Bool, true, false, refl, sym, ap, subst, ◌∙◌, append_assoc, arith}
use Rattle.std.specs.List.{list_any}
use Rattle.std.proofs.lemmas.List.{append-nil, length-append}
use Rattle.df_base.specs.declared.pos.Pos.{Pos}
use Rattle.df_base.specs.Names.{same_text, with_text}
use Rattle.df_tok.specs.declared.token.Kind.{Kind}
use Rattle.df_tok.specs.declared.token.Kind.TheVariants as kinds
use Rattle.df_tok.specs.Token.{Token, HasKind}
use Rattle.df_tok.specs.Scanned.{Grows}
use Rattle.df_tok.specs.Division.{after_bytes, start, Piece, Blank, LineComment, BlockComment, Lexeme, text_of, IsPiece, AreDivided, tokens_of, Divides}
use Rattle.df_tok.specs.Fault.{IsFront, after_pieces}
use Rattle.df_tok.specs.Steps.{token_of, NextPiece, NoPiece, Exceeds}
use Rattle.df_tok.proofs.Lists.{Parts-take}
use Rattle.df_tok.proofs.Pieces.{one_piece, no_piece_of_nothing}

-- ---- tokens, piece by piece

pub tokens_cons : (pos : Pos) (piece : Piece) (pieces : List Piece) → tokens_of pos (piece ∷ pieces) ≡ token_of pos piece ++ tokens_of (after_bytes pos (text_of piece)) pieces
tokens_cons pos (Blank b) pieces = refl
tokens_cons pos (LineComment text) pieces = refl
tokens_cons pos (BlockComment text) pieces = refl
tokens_cons pos (Lexeme kind text) pieces = refl

pub tokens_append : (pos : Pos) (pieces more : List Piece) → tokens_of pos (pieces ++ more) ≡ tokens_of pos pieces ++ tokens_of (after_pieces pos pieces) more
tokens_append pos [] more = refl
tokens_append pos (piece ∷ pieces) more =
    let next = after_bytes pos (text_of piece) in
    tokens_cons pos piece (pieces ++ more) ∙ ap (λ (t : List Token). token_of pos piece ++ t) (tokens_append next pieces more)
    ∙ sym (append_assoc (token_of pos piece) (tokens_of next pieces) (tokens_of (after_pieces next pieces) more))
    ∙ ap (λ (t : List Token). t ++ tokens_of (after_pieces next pieces) more) (sym (tokens_cons pos piece pieces))

pos_append : (pos : Pos) (pieces : List Piece) (piece : Piece) → after_pieces pos (pieces ++ piece ∷ []) ≡ after_bytes (after_pieces pos pieces) (text_of piece)
pos_append pos [] piece = refl
pos_append pos (p ∷ pieces) piece = pos_append (after_bytes pos (text_of p)) pieces piece

-- ---- a front of the source

reach_on : (before : List (List ℕ)) (source : List ℕ) (pieces : List Piece) (rest : List ℕ) (between : List (List ℕ)) (piece : Piece) (next : List ℕ) (after : List (List ℕ))
    → IsFront before source pieces rest between → rest ≡ text_of piece ++ next → IsPiece between piece next after → IsFront before source (pieces ++ piece ∷ []) next after
reach_on before source [] rest between piece next after (is, kept) e h =
    (next, after, is ∙ e, subst (λ (n : List (List ℕ)). IsPiece n piece next after) kept h, (refl, refl))
reach_on before source (p ∷ pieces) rest between piece next after (n, b, is, first, others) e h =
    (n, b, is, first, reach_on b n pieces rest between piece next after others e h)

reach_all : (before : List (List ℕ)) (source : List ℕ) (pieces : List Piece) (rest : List ℕ) (after : List (List ℕ)) → IsFront before source pieces rest after → rest ≡ [] → AreDivided before source pieces after
reach_all before source [] rest after (is, kept) e = (is ∙ e, kept)
reach_all before source (piece ∷ pieces) rest after (n, b, is, first, others) e = (n, b, is, first, reach_all b n pieces rest after others e)

-- any division of the source begins with these pieces, as tokens see them
pub record Splits (source : List ℕ) (pieces others : List Piece) (rest : List ℕ) (between after : List (List ℕ)) : Type 0 where
  pub more : List Piece
  pub divided : AreDivided between rest more after
  pub tokens : (pos : Pos) → tokens_of pos others ≡ tokens_of pos pieces ++ tokens_of (after_pieces pos pieces) more

pub split : (before : List (List ℕ)) (source : List ℕ) (pieces others : List Piece) (rest : List ℕ) (between after : List (List ℕ))
    → IsFront before source pieces rest between → AreDivided before source others after → Splits source pieces others rest between after
split before source [] others rest between after (is, kept) d = record {
  more = others;
  divided = subst (λ (n : List (List ℕ)). AreDivided n rest others after) (sym kept) (subst (λ (t : List ℕ). AreDivided before t others after) is d);
  tokens = λ pos. refl;
}
split before source (piece ∷ pieces) [] rest between after (n, b, is, first, reached) (empty, kept) = absurd (no_piece_of_nothing before piece n b (sym is ∙ empty) first)
split before source (piece ∷ pieces) (other ∷ others) rest between after (n, b, is, first, reached) (n', b', is', first', divided) =
    let s = one_piece before source piece other n n' b b' is is' first first' in
    let d : AreDivided b n others after = subst (λ (t : List ℕ). AreDivided b t others after) (sym s.rest_is) (subst (λ (x : List (List ℕ)). AreDivided x n' others after) (sym s.names) divided) in
    let r = split b n pieces others rest between after reached d in
    record {
      more = r.more;
      divided = r.divided;
      tokens = λ pos.
          let next = after_bytes pos (text_of piece) in
          tokens_cons pos other others
          ∙ ap (λ (t : List Token). t ++ tokens_of (after_bytes pos (text_of other)) others) (sym (s.token pos))
          ∙ ap (λ (t : List ℕ). token_of pos piece ++ tokens_of (after_bytes pos t) others) (sym s.text)
          ∙ ap (λ (t : List Token). token_of pos piece ++ t) (r.tokens next)
          ∙ sym (append_assoc (token_of pos piece) (tokens_of next pieces) (tokens_of (after_pieces next pieces) r.more))
          ∙ ap (λ (t : List Token). t ++ tokens_of (after_pieces next pieces) r.more) (sym (tokens_cons pos piece pieces));
    }

reach_divided : (before : List (List ℕ)) (source : List ℕ) (pieces : List Piece) (after : List (List ℕ)) → AreDivided before source pieces after → IsFront before source pieces [] after
reach_divided before source [] after h = h
reach_divided before source (piece ∷ pieces) after (n, b, is, first, others) = (n, b, is, first, reach_divided b n pieces after others)

nothing_left : (before : List (List ℕ)) (pieces : List Piece) (after : List (List ℕ)) → AreDivided before [] pieces after → (pieces ≡ []) × (after ≡ before)
nothing_left before [] after h = (refl, h.1)
nothing_left before (piece ∷ pieces) after (n, b, is, first, others) = absurd (no_piece_of_nothing before piece n b (sym is) first)

-- a source divides in one way
pub one_division : (before : List (List ℕ)) (source : List ℕ) (tokens others : List Token) (after last : List (List ℕ)) → Divides before source tokens after → Divides before source others last → (tokens ≡ others) × (after ≡ last)
one_division before source tokens others after last (pieces, d, is) (pieces', d', is') =
    let s = split before source pieces pieces' [] after last (reach_divided before source pieces after d) d' in
    let e = nothing_left after s.more last s.divided in
    (is ∙ sym (append-nil (tokens_of start pieces)) ∙ ap (λ (m : List Piece). tokens_of start pieces ++ tokens_of (after_pieces start pieces) m) (sym e.0) ∙ sym (s.tokens start) ∙ sym is', sym e.1)

-- ---- as a loop does

-- how far a loop has come
pub record Progress (before : List (List ℕ)) (source : List ℕ) (tokens : List Token) (rest : List ℕ) (pos : Pos) (names : List (List ℕ)) : Type 0 where
  pub pieces : List Piece
  pub reaches : IsFront before source pieces rest names
  pub tokens_are : tokens ≡ tokens_of start pieces
  pub pos_is : pos ≡ after_pieces start pieces

pub progress_none : (names : List (List ℕ)) (source : List ℕ) → Progress names source [] source start names
progress_none names source = record { pieces = []; reaches = (refl, refl); tokens_are = refl; pos_is = refl }

pub progress_more : (before : List (List ℕ)) (source : List ℕ) (tokens more : List Token) (rest : List ℕ) (pos : Pos) (names after : List (List ℕ)) (n : ℕ)
    → Progress before source tokens rest pos names → NextPiece names rest pos more n after → Progress before source (tokens ++ more) (drop n rest) (after_bytes pos (take n rest)) after
progress_more before source tokens more rest pos names after n p q =
    let text : text_of q.piece ≡ take n rest = Parts-take rest (text_of q.piece) (drop n rest) n (record { is = q.is; len = q.len }) in
    record {
      pieces = p.pieces ++ q.piece ∷ [];
      reaches = reach_on before source p.pieces rest names q.piece (drop n rest) after p.reaches q.is q.is_piece;
      tokens_are =
          ap (λ (t : List Token). t ++ more) p.tokens_are ∙ ap (λ (t : List Token). tokens_of start p.pieces ++ t) (q.tokens_are ∙ ap (λ (x : Pos). token_of x q.piece) p.pos_is ∙ sym (one_token (after_pieces start p.pieces) q.piece))
          ∙ sym (tokens_append start p.pieces (q.piece ∷ []));
      pos_is = ap (after_bytes pos) (sym text) ∙ ap (λ (x : Pos). after_bytes x (text_of q.piece)) p.pos_is ∙ sym (pos_append start p.pieces q.piece);
    }
  where
    one_token : (pos : Pos) (piece : Piece) → tokens_of pos (piece ∷ []) ≡ token_of pos piece
    one_token pos piece = tokens_cons pos piece [] ∙ append-nil (token_of pos piece)

pub progress_divides : (before : List (List ℕ)) (source : List ℕ) (tokens : List Token) (rest : List ℕ) (pos : Pos) (names : List (List ℕ)) → Progress before source tokens rest pos names → rest ≡ [] → Divides before source tokens names
progress_divides before source tokens rest pos names p e = (p.pieces, reach_all before source p.pieces rest names p.reaches e, p.tokens_are)

-- where the rest has too many tokens, the source has
pub progress_exceeds : (before : List (List ℕ)) (source : List ℕ) (tokens : List Token) (rest : List ℕ) (pos : Pos) (names : List (List ℕ)) (left : ℕ)
    → Progress before source tokens rest pos names → Exceeds names rest left → (all : List Token) (after : List (List ℕ)) → Divides before source all after → left + length tokens < length all
progress_exceeds before source tokens rest pos names left p h all after (others, d, is) =
    let s = split before source p.pieces others rest names after p.reaches d in
    let e = s.tokens start in
    omega (arith, ap length is, ap length e, length-append (tokens_of start p.pieces) (tokens_of (after_pieces start p.pieces) s.more), ap length p.tokens_are, h s.more after (after_pieces start p.pieces) s.divided)

-- where no piece stands nothing divides
pub no_piece_exceeds : (names : List (List ℕ)) (bytes : List ℕ) (left : ℕ) → 0 < length bytes → NoPiece names bytes → Exceeds names bytes left
no_piece_exceeds names bytes left some h [] after pos d = absurd (omega (arith, ap length d.0))
no_piece_exceeds names bytes left some h (piece ∷ pieces) after pos (n, b, is, first, others) = absurd (h piece n b is first)

-- where a token stands there is at least one
pub token_exceeds : (names : List (List ℕ)) (bytes : List ℕ) (pos : Pos) (token : Token) (n : ℕ) (after : List (List ℕ)) → 0 < length bytes → NextPiece names bytes pos (token ∷ []) n after → Exceeds names bytes 0
token_exceeds names bytes pos token n after some q [] last at d = absurd (omega (arith, ap length d.0))
token_exceeds names bytes pos token n after some q (piece ∷ pieces) last at (next, b, is, first, others) =
    let s = one_piece names bytes q.piece piece (drop n bytes) next after b q.is is q.is_piece first in
    let one : length (token_of pos q.piece) ≡ 1 = ap length (sym q.tokens_are) in
    omega (arith, ap length (tokens_cons at piece pieces), length-append (token_of at piece) (tokens_of (after_bytes at (text_of piece)) pieces), ap length (sym (s.token at)), same_count pos at q.piece, one)
  where
    same_count : (pos at : Pos) (piece : Piece) → length (token_of pos piece) ≡ length (token_of at piece)
    same_count pos at (Blank b) = refl
    same_count pos at (LineComment text) = refl
    same_count pos at (BlockComment text) = refl
    same_count pos at (Lexeme kind text) = refl

-- ---- names

pub grows_none : (names : List (List ℕ)) (count : ℕ) → Grows names names count
grows_none names count = record { more = []; is = sym (append-nil names); few = omega arith }

pub grows_more : (a b c : List (List ℕ)) (m n : ℕ) → Grows a b m → Grows b c n → Grows a c (m + n)
grows_more a b c m n p q = record {
  more = p.more ++ q.more;
  is = q.is ∙ ap (λ (x : List (List ℕ)). x ++ q.more) p.is ∙ append_assoc a p.more q.more;
  few = omega (arith, length-append p.more q.more, p.few, q.few);
}

pub grows_most : (a b : List (List ℕ)) (m n : ℕ) → m ≤ n → Grows a b m → Grows a b n
grows_most a b m n le p = record { more = p.more; is = p.is; few = omega (arith, p.few) }

grows_text : (names : List (List ℕ)) (text : List ℕ) → Grows names (with_text names text) 1
grows_text names text = by (list_any (same_text text) names)
  where
    by : (t : Bool) → Grows names (cond t names (names ++ text ∷ [])) 1
    by true = grows_none names 1
    by false = record { more = text ∷ []; is = refl; few = omega arith }

kind_grows : (names : List (List ℕ)) (text : List ℕ) (kind : Kind) (after : List (List ℕ)) → HasKind names text kind after → Grows names after 1
kind_grows names text (kinds.Name n) after (is, wild, word, out, named) = subst (λ (x : List (List ℕ)). Grows names x 1) (sym named.0) (grows_text names text)
kind_grows names text (kinds.Outside n) after (out, named) = subst (λ (x : List (List ℕ)). Grows names x 1) (sym named.0) (grows_text names text)
kind_grows names text kinds.Wildcard after (is, kept) = subst (λ (x : List (List ℕ)). Grows names x 1) (sym kept) (grows_none names 1)
kind_grows names text (kinds.Word w) after (is, kept) = subst (λ (x : List (List ℕ)). Grows names x 1) (sym kept) (grows_none names 1)
kind_grows names text (kinds.Number n) after (is, value, small, kept) = subst (λ (x : List (List ℕ)). Grows names x 1) (sym kept) (grows_none names 1)
kind_grows names text (kinds.Character c) after (is, kept) = subst (λ (x : List (List ℕ)). Grows names x 1) (sym kept) (grows_none names 1)
kind_grows names text kinds.Text after (is, kept) = subst (λ (x : List (List ℕ)). Grows names x 1) (sym kept) (grows_none names 1)
kind_grows names text (kinds.Sign s) after (is, kept) = subst (λ (x : List (List ℕ)). Grows names x 1) (sym kept) (grows_none names 1)

piece_grows : (names : List (List ℕ)) (piece : Piece) (rest : List ℕ) (after : List (List ℕ)) (pos : Pos) → IsPiece names piece rest after → Grows names after (length (token_of pos piece))
piece_grows names (Blank b) rest after pos h = subst (λ (x : List (List ℕ)). Grows names x 0) (sym h.1) (grows_none names 0)
piece_grows names (LineComment text) rest after pos h = subst (λ (x : List (List ℕ)). Grows names x 0) (sym h.2) (grows_none names 0)
piece_grows names (BlockComment text) rest after pos h = subst (λ (x : List (List ℕ)). Grows names x 0) (sym h.1) (grows_none names 0)
piece_grows names (Lexeme kind text) rest after pos h = kind_grows names text kind after h.3

reach_grows : (before : List (List ℕ)) (source : List ℕ) (pieces : List Piece) (rest : List ℕ) (after : List (List ℕ)) (pos : Pos) → IsFront before source pieces rest after → Grows before after (length (tokens_of pos pieces))
reach_grows before source [] rest after pos (is, kept) = subst (λ (x : List (List ℕ)). Grows before x 0) (sym kept) (grows_none before 0)
reach_grows before source (piece ∷ pieces) rest after pos (n, b, is, first, others) =
    let next = after_bytes pos (text_of piece) in
    let len : length (token_of pos piece) + length (tokens_of next pieces) ≡ length (tokens_of pos (piece ∷ pieces)) = sym (ap length (tokens_cons pos piece pieces) ∙ length-append (token_of pos piece) (tokens_of next pieces)) in
    subst (Grows before after) len (grows_more before b after (length (token_of pos piece)) (length (tokens_of next pieces)) (piece_grows before piece n b pos first) (reach_grows b n pieces rest after next others))

-- names grow by at most one a token
pub progress_grows : (before : List (List ℕ)) (source : List ℕ) (tokens : List Token) (rest : List ℕ) (pos : Pos) (names : List (List ℕ)) → Progress before source tokens rest pos names → Grows before names (length tokens)
progress_grows before source tokens rest pos names p = subst (Grows before names) (sym (ap length p.tokens_are)) (reach_grows before source p.pieces rest names start p.reaches)

pub next_within : (names : List (List ℕ)) (bytes : List ℕ) (pos : Pos) (tokens : List Token) (n : ℕ) (after : List (List ℕ)) → NextPiece names bytes pos tokens n after → n ≤ length bytes
next_within names bytes pos tokens n after q = omega (arith, ap length q.is, length-append (text_of q.piece) (drop n bytes), q.len)
