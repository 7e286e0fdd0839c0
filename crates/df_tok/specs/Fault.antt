-- Why a source is refused: the first fault from the left.
use Rattle.std.specs.Prelude.{◌≡◌, ◌≢◌, ℕ, ◌<◌, ◌≤◌, ◌^◌, nat_le, List, [], ◌∷◌, ◌++◌, length}
use Rattle.df_base.specs.declared.pos.Pos.{Pos}
use Rattle.df_base.specs.declared.refusal.Code.{Code}
use Rattle.df_base.specs.declared.refusal.Code.TheVariants as codes
use Rattle.df_base.specs.declared.refusal.Detail.{Detail}
use Rattle.df_base.specs.declared.refusal.Detail.TheVariants.{Nothing, Count}
use Rattle.df_base.specs.declared.refusal.Refusal.{Refusal}
use Rattle.df_tok.specs.declared.token.Kind.{Kind}
use Rattle.df_tok.specs.Byte.{is_blank}
use Rattle.df_tok.specs.Lexeme.{NotNext, IsNumber, value_of_number, IsLexeme}
use Rattle.df_tok.specs.Division.{after_bytes, start, Closes, BeginsComment, IsLongest, Piece, Lexeme, text_of, IsPiece, tokens_of}
use Rattle.df_tok.specs.Limits.{token_limit, byte_limit}

abbrev pub refusal : Code → Pos → Detail → Refusal
refusal code pos detail = record { code = code; pos = pos; detail = detail }

-- bytes that can be continued to a lexeme
abbrev pub IsBegun : List ℕ → Type 0
IsBegun front = (more : List ℕ) × IsLexeme (front ++ more) []

-- the longest front of the rest that can be continued to a lexeme, and what stands behind it
pub record Stops (rest front behind : List ℕ) : Type 0 where
  pub is : rest ≡ front ++ behind
  pub begun : IsBegun front
  pub longest : (other more : List ℕ) → rest ≡ other ++ more → IsBegun other → length other ≤ length front

-- no blank, comment or lexeme begins here
pub record NothingBegins (rest : List ℕ) : Type 0 where
  pub some : rest ≢ []
  pub blank : NotNext is_blank rest
  pub comment : ¬ BeginsComment rest
  pub lexeme : (text more : List ℕ) → rest ≡ text ++ more → ¬ IsLexeme text more

-- a comment that is never closed
abbrev pub IsUnclosed : List ℕ → Type 0
IsUnclosed rest = (inner : List ℕ) × (rest ≡ 47 ∷ 42 ∷ inner) × ((front more : List ℕ) → inner ≡ front ++ more → ¬ Closes 1 front)

-- The refusal at the rest of a source, at this position and after so many tokens: the token there is a number
-- of 2^127 or more, or a token too many; or a comment is not closed; or no token stands there, and
-- the byte that continues none is 128 or more, or it is less or the end.
pub data IsRefusedAt (names : List (List ℕ)) (rest : List ℕ) (pos : Pos) (count : ℕ) (r : Refusal) : Type 0 where
  number : (text more : List ℕ) → rest ≡ text ++ more → IsLexeme text more → IsLongest text more → ¬ BeginsComment (text ++ more)
      → IsNumber text → 2 ^ 127 ≤ value_of_number text → r ≡ refusal codes.Number pos Nothing → IsRefusedAt names rest pos count r
  many : (kind : Kind) (text more : List ℕ) (after : List (List ℕ)) → rest ≡ text ++ more → IsPiece names (Lexeme kind text) more after
      → count ≡ token_limit → r ≡ refusal codes.Limit pos (Count token_limit) → IsRefusedAt names rest pos count r
  unclosed : IsUnclosed rest → r ≡ refusal codes.Token pos Nothing → IsRefusedAt names rest pos count r
  byte : NothingBegins rest → (front : List ℕ) (b : ℕ) (behind : List ℕ) → Stops rest front (b ∷ behind) → 128 ≤ b
      → r ≡ refusal codes.Byte (after_bytes pos front) Nothing → IsRefusedAt names rest pos count r
  token : NothingBegins rest → (front behind : List ℕ) → Stops rest front behind → NotNext (nat_le 128) behind
      → r ≡ refusal codes.Token pos Nothing → IsRefusedAt names rest pos count r

-- the pieces are a front of the source, with the rest and the names after them
abbrev pub IsFront : List (List ℕ) → List ℕ → List Piece → List ℕ → List (List ℕ) → Type 0
IsFront before source [] rest after = (source ≡ rest) × (after ≡ before)
IsFront before source (piece ∷ pieces) rest after =
    (next : List ℕ) × (between : List (List ℕ)) × (source ≡ text_of piece ++ next) × IsPiece before piece next between × IsFront between next pieces rest after

-- the position after some pieces
abbrev pub after_pieces : Pos → List Piece → Pos
after_pieces pos [] = pos
after_pieces pos (piece ∷ pieces) = after_pieces (after_bytes pos (text_of piece)) pieces

-- The first fault of a source: it is too long, or after a front with no fault the rest is refused.
pub data IsFault (before : List (List ℕ)) (source : List ℕ) (r : Refusal) : Type 0 where
  long : byte_limit < length source → r ≡ refusal codes.Limit start (Count (length source)) → IsFault before source r
  stop : length source ≤ byte_limit → (pieces : List Piece) (rest : List ℕ) (names : List (List ℕ)) → IsFront before source pieces rest names
      → length (tokens_of start pieces) ≤ token_limit → IsRefusedAt names rest (after_pieces start pieces) (length (tokens_of start pieces)) r → IsFault before source r
