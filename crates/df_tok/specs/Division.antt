-- The division of a source into blanks, comments and tokens.
use Rattle.std.specs.Prelude.{◌≡◌, ◌≢◌, ℕ, suc, zero, ◌+◌, ◌≤◌, IsTrue, ◌==◌, ◌&&◌, ◌⊎◌, MatchBool, List, [], ◌∷◌, ◌++◌, length, fold, if◌then◌else◌}
use Rattle.std.specs.List.{AllByRecursion}
use Rattle.df_base.specs.declared.pos.Pos.{Pos}
use Rattle.df_tok.specs.declared.token.Kind.{Kind}
use Rattle.df_tok.specs.Byte.{is_blank}
use Rattle.df_tok.specs.Lexeme.{IsLexeme}
use Rattle.df_tok.specs.Token.{Token, HasKind}

-- the position after a byte, and after some: lines end at a line feed
abbrev pub after_byte : Pos → ℕ → Pos
after_byte pos b = if b == 10 then record { line = pos.line + 1; col = 1 } else record { line = pos.line; col = pos.col + 1 }

abbrev pub after_bytes : Pos → List ℕ → Pos
after_bytes pos bytes = fold after_byte pos bytes

abbrev pub start : Pos
start = record { line = 1; col = 1 }

-- `//` and no line feed
abbrev pub IsLineComment : List ℕ → Type 0
IsLineComment text = (inner : List ℕ) × (text ≡ 47 ∷ 47 ∷ inner) × AllByRecursion (λ b. b ≢ 10) inner

-- the end, or a line feed
abbrev pub EndsLine : List ℕ → Type 0
EndsLine [] = Unit {0}
EndsLine (b ∷ bs) = b ≡ 10

-- Bytes that close so many open comments, the last of them at their end. From left to right `/*` opens
-- one more, `*/` closes one, and any other byte counts nothing.
abbrev pub Closes : ℕ → List ℕ → Type 0
Closes zero bytes = bytes ≡ []
Closes (suc depth) [] = ⊥
Closes (suc depth) (a ∷ []) = ⊥
Closes (suc depth) (a ∷ b ∷ rest) =
    MatchBool (a == 47 && b == 42) (Closes (suc (suc depth)) rest)
    (MatchBool (a == 42 && b == 47) (Closes depth rest)
    (Closes (suc depth) (b ∷ rest)))

-- `/*` and what closes it; comments nest
abbrev pub IsBlockComment : List ℕ → Type 0
IsBlockComment text = (inner : List ℕ) × (text ≡ 47 ∷ 42 ∷ inner) × Closes 1 inner

-- a comment begins here
abbrev pub BeginsComment : List ℕ → Type 0
BeginsComment bytes = (b : ℕ) × (rest : List ℕ) × (bytes ≡ 47 ∷ b ∷ rest) × ((b ≡ 47) ⊎ (b ≡ 42))

-- no longer prefix of the source from here is a lexeme
abbrev pub IsLongest : List ℕ → List ℕ → Type 0
IsLongest text rest = (other more : List ℕ) → other ++ more ≡ text ++ rest → IsLexeme other more → length other ≤ length text

-- a piece of a source
pub data Piece : Type 0 where
  Blank : ℕ → Piece
  LineComment : List ℕ → Piece
  BlockComment : List ℕ → Piece
  Lexeme : Kind → List ℕ → Piece

abbrev pub text_of : Piece → List ℕ
text_of (Blank b) = b ∷ []
text_of (LineComment text) = text
text_of (BlockComment text) = text
text_of (Lexeme kind text) = text

-- A piece before the rest of the source, with the names before and after it. Where no blank and no
-- comment stands, the longest token does.
abbrev pub IsPiece : List (List ℕ) → Piece → List ℕ → List (List ℕ) → Type 0
IsPiece before (Blank b) rest after = IsTrue (is_blank b) × (after ≡ before)
IsPiece before (LineComment text) rest after = IsLineComment text × EndsLine rest × (after ≡ before)
IsPiece before (BlockComment text) rest after = IsBlockComment text × (after ≡ before)
IsPiece before (Lexeme kind text) rest after =
    IsLexeme text rest × IsLongest text rest × ¬ BeginsComment (text ++ rest) × HasKind before text kind after

-- the pieces are the source, one after another
abbrev pub AreDivided : List (List ℕ) → List ℕ → List Piece → List (List ℕ) → Type 0
AreDivided before source [] after = (source ≡ []) × (after ≡ before)
AreDivided before source (piece ∷ pieces) after =
    (rest : List ℕ) × (between : List (List ℕ))
    × (source ≡ text_of piece ++ rest) × IsPiece before piece rest between × AreDivided between rest pieces after

-- the tokens among the pieces, from a position on
abbrev pub tokens_of : Pos → List Piece → List Token
tokens_of pos [] = []
tokens_of pos (Blank b ∷ pieces) = tokens_of (after_byte pos b) pieces
tokens_of pos (LineComment text ∷ pieces) = tokens_of (after_bytes pos text) pieces
tokens_of pos (BlockComment text ∷ pieces) = tokens_of (after_bytes pos text) pieces
tokens_of pos (Lexeme kind text ∷ pieces) = record { kind = kind; text = text; pos = pos } ∷ tokens_of (after_bytes pos text) pieces

-- The source divides into these tokens, with the names before and after it.
abbrev pub Divides : List (List ℕ) → List ℕ → List Token → List (List ℕ) → Type 0
Divides before source tokens after =
    (pieces : List Piece) × AreDivided before source pieces after × (tokens ≡ tokens_of start pieces)
