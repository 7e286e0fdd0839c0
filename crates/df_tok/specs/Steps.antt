-- A division, a piece after another.
use Rattle.std.specs.Prelude.{◌≡◌, ℕ, ◌<◌, ◌≤◌, ◌^◌, List, [], ◌∷◌, ◌++◌, length, drop}
use Rattle.df_base.specs.declared.pos.Pos.{Pos}
use Rattle.df_tok.specs.declared.token.Kind.{Kind}
use Rattle.df_base.specs.declared.refusal.Refusal.{Refusal}
use Rattle.df_base.specs.declared.refusal.Code.TheVariants as tags
use Rattle.df_base.specs.declared.refusal.Detail.TheVariants.{Nothing, Count}
use Rattle.df_tok.specs.Lexeme.{IsNumber, value_of_number}
use Rattle.df_tok.specs.Fault.{refusal}
use Rattle.df_tok.specs.Token.{Token, HasKind}
use Rattle.df_tok.specs.Division.{Piece, Blank, LineComment, BlockComment, Lexeme, text_of, IsPiece, AreDivided, tokens_of}
use Rattle.df_tok.specs.Limits.{token_limit}

-- the token that a piece is, if it is one
abbrev pub token_of : Pos → Piece → List Token
token_of pos (Blank b) = []
token_of pos (LineComment text) = []
token_of pos (BlockComment text) = []
token_of pos (Lexeme kind text) = record { kind = kind; text = text; pos = pos } ∷ []

-- the piece at the front of the source, of so many bytes, with its token
pub record NextPiece (before : List (List ℕ)) (bytes : List ℕ) (pos : Pos) (tokens : List Token) (n : ℕ) (after : List (List ℕ)) : Type 0 where
  pub piece : Piece
  pub is : bytes ≡ text_of piece ++ drop n bytes
  pub is_piece : IsPiece before piece (drop n bytes) after
  pub len : length (text_of piece) ≡ n
  pub some : 0 < n
  pub tokens_are : tokens ≡ token_of pos piece

-- the tokens with one more, of this text
pub record AddsToken (before : List (List ℕ)) (text : List ℕ) (pos : Pos) (old new : List Token) (after : List (List ℕ)) : Type 0 where
  pub kind : Kind
  pub has : HasKind before text kind after
  pub items : new ≡ old ++ record { kind = kind; text = text; pos = pos } ∷ []

-- why a text of this form cannot be added: it is too large a number, or there are too many tokens before it
pub data CannotAdd (before : List (List ℕ)) (text : List ℕ) (pos : Pos) (count : ℕ) (r : Refusal) : Type 0 where
  large : IsNumber text → 2 ^ 127 ≤ value_of_number text → r ≡ refusal tags.Number pos Nothing → CannotAdd before text pos count r
  full : (kind : Kind) (after : List (List ℕ)) → HasKind before text kind after → count ≡ token_limit → r ≡ refusal tags.Limit pos (Count token_limit) → CannotAdd before text pos count r

-- the tokens with that of the piece at the front
pub record AddsPiece (before : List (List ℕ)) (bytes : List ℕ) (pos : Pos) (n : ℕ) (old new : List Token) (after : List (List ℕ)) : Type 0 where
  pub more : List Token
  pub next : NextPiece before bytes pos more n after
  pub within : n ≤ length bytes
  pub items : new ≡ old ++ more

-- no piece is at the front
abbrev pub NoPiece : List (List ℕ) → List ℕ → Type 0
NoPiece before bytes = (piece : Piece) (rest : List ℕ) (after : List (List ℕ)) → bytes ≡ text_of piece ++ rest → IsPiece before piece rest after → ⊥

-- each division has more tokens than are left
abbrev pub Exceeds : List (List ℕ) → List ℕ → ℕ → Type 0
Exceeds before bytes left = (pieces : List Piece) (after : List (List ℕ)) (pos : Pos) → AreDivided before bytes pieces after → left < length (tokens_of pos pieces)
