-- Tokens stand one after another, so that no two stand at one position.
use Rattle.std.proofs.Common.{◌≡◌, ℕ, zero, suc, ◌+◌, ◌<◌, ◌⊎◌, inl, inr, Bool, true, false, List, [], ◌∷◌, ◌++◌, length, if◌then◌else◌, Contains, sym, ap, subst, ◌∙◌, arith}
use Rattle.std.specs.Prelude.{◌==◌}
use Rattle.std.specs.List.{AllByRecursion}
use Rattle.df_lemmas.proofs.Alls.{all_at}
use Rattle.df_base.specs.declared.pos.Pos.{Pos}
use Rattle.df_tok.specs.declared.token.Kind.{Kind}
use Rattle.df_tok.specs.Token.{Token}
use Rattle.df_tok.specs.Division.{after_byte, after_bytes, start, Piece, Blank, LineComment, BlockComment, Lexeme, IsPiece, AreDivided, tokens_of, Divides}
use Rattle.df_tok.proofs.Pieces.{lexeme_seen, lex_next}

-- the one position stands before the other
abbrev IsBefore : Pos → Pos → Type 0
IsBefore one other = (one.line < other.line) ⊎ ((one.line ≡ other.line) × (one.col < other.col))

before_after : (a b c : Pos) → IsBefore a b → IsBefore b c → IsBefore a c
before_after a b c (inl p) (inl q) = inl (omega arith)
before_after a b c (inl p) (inr q) = let e = q.0 in inl (omega arith)
before_after a b c (inr p) (inl q) = let e = p.0 in inl (omega arith)
before_after a b c (inr p) (inr q) = let e = p.1 in let f = q.1 in inr (p.0 ∙ q.0, omega arith)

not_before : (a b : Pos) → a ≡ b → IsBefore a b → ⊥
not_before a b e (inl p) = omega (arith, ap (λ (x : Pos). x.line) e, p)
not_before a b e (inr p) = omega (arith, ap (λ (x : Pos). x.col) e, p.1)

before_byte : (pos : Pos) (b : ℕ) → IsBefore pos (after_byte pos b)
before_byte pos b = by (b == 10)
  where
    by : (t : Bool) → IsBefore pos (if t then record { line = pos.line + 1; col = 1 } else record { line = pos.line; col = pos.col + 1 })
    by true = inl (omega arith)
    by false = inr (λ i. pos.line, omega arith)

-- what stands before a position stands before those after it
before_bytes : (first pos : Pos) (bytes : List ℕ) → IsBefore first pos → IsBefore first (after_bytes pos bytes)
before_bytes first pos [] h = h
before_bytes first pos (b ∷ bytes) h = before_bytes first (after_byte pos b) bytes (before_after first pos (after_byte pos b) h (before_byte pos b))

passes : (pos : Pos) (bytes : List ℕ) → 0 < length bytes → IsBefore pos (after_bytes pos bytes)
passes pos [] some = absurd (omega arith)
passes pos (b ∷ bytes) some = before_bytes pos (after_byte pos b) bytes (before_byte pos b)

abbrev AreAfter : Pos → List Token → Type 0
AreAfter first tokens = AllByRecursion (λ (t : Token). IsBefore first t.pos) tokens

all_after : (first pos : Pos) (pieces : List Piece) → IsBefore first pos → AreAfter first (tokens_of pos pieces)
all_after first pos [] h = tt
all_after first pos (Blank b ∷ pieces) h = all_after first (after_byte pos b) pieces (before_after first pos (after_byte pos b) h (before_byte pos b))
all_after first pos (LineComment text ∷ pieces) h = all_after first (after_bytes pos text) pieces (before_bytes first pos text h)
all_after first pos (BlockComment text ∷ pieces) h = all_after first (after_bytes pos text) pieces (before_bytes first pos text h)
all_after first pos (Lexeme kind text ∷ pieces) h = (h, all_after first (after_bytes pos text) pieces (before_bytes first pos text h))

-- each token stands before those that follow
abbrev AreOrdered : List Token → Type 0
AreOrdered [] = Unit {0}
AreOrdered (t ∷ tokens) = AreAfter t.pos tokens × AreOrdered tokens

lexeme_some : (names : List (List ℕ)) (kind : Kind) (text rest : List ℕ) (after : List (List ℕ)) → IsPiece names (Lexeme kind text) rest after → 0 < length text
lexeme_some names kind text rest after p =
    let f = lexeme_seen text rest p.0 p.1 p.2 in
    (lex_next (text ++ rest) f.0 (length text) f.1).some

divided_ordered : (pos : Pos) (before : List (List ℕ)) (source : List ℕ) (pieces : List Piece) (after : List (List ℕ)) → AreDivided before source pieces after → AreOrdered (tokens_of pos pieces)
divided_ordered pos before source [] after h = tt
divided_ordered pos before source (Blank b ∷ pieces) after (rest, between, is, first, others) = divided_ordered (after_byte pos b) between rest pieces after others
divided_ordered pos before source (LineComment text ∷ pieces) after (rest, between, is, first, others) = divided_ordered (after_bytes pos text) between rest pieces after others
divided_ordered pos before source (BlockComment text ∷ pieces) after (rest, between, is, first, others) = divided_ordered (after_bytes pos text) between rest pieces after others
divided_ordered pos before source (Lexeme kind text ∷ pieces) after (rest, between, is, first, others) =
    (all_after pos (after_bytes pos text) pieces (passes pos text (lexeme_some before kind text rest between first)), divided_ordered (after_bytes pos text) between rest pieces after others)

apart : (x one other : Token) (tokens : List Token) → AreAfter x.pos tokens → x ≡ one → Contains tokens other → one.pos ≡ other.pos → ⊥
apart x one other tokens all e there same =
    not_before x.pos other.pos (ap (λ (t : Token). t.pos) e ∙ same) (all_at (λ (t : Token). IsBefore x.pos t.pos) tokens other all there)

ordered_once : (tokens : List Token) (one other : Token) → AreOrdered tokens → Contains tokens one → Contains tokens other → one.pos ≡ other.pos → one ≡ other
ordered_once [] one other h (k, lt, e) there same = absurd (omega arith)
ordered_once (x ∷ tokens) one other h (zero, lt, e) (zero, lt', e') same = sym e ∙ e'
ordered_once (x ∷ tokens) one other h (zero, lt, e) (suc k, lt', e') same = absurd (apart x one other tokens h.0 e (k, omega arith, e') same)
ordered_once (x ∷ tokens) one other h (suc k, lt, e) (zero, lt', e') same = absurd (apart x other one tokens h.0 e' (k, omega arith, e) (sym same))
ordered_once (x ∷ tokens) one other h (suc k, lt, e) (suc k', lt', e') same = ordered_once tokens one other h.1 (k, omega arith, e) (k', omega arith, e') same

-- no two tokens stand at one position
pub one_pos : (before : List (List ℕ)) (source : List ℕ) (tokens : List Token) (after : List (List ℕ)) (one other : Token) → Divides before source tokens after → Contains tokens one → Contains tokens other → one.pos ≡ other.pos → one ≡ other
one_pos before source tokens after one other (pieces, divided, is) there its same =
    ordered_once (tokens_of start pieces) one other (divided_ordered start before source pieces after divided)
    (subst (λ (ts : List Token). Contains ts one) is there) (subst (λ (ts : List Token). Contains ts other) is its) same
