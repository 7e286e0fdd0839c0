-- The tokens that a tree spells.
use Rattle.std.specs.Prelude.{◌≡◌, ◌≢◌, ℕ, List, [], ◌∷◌, ◌++◌, Option, Some, None}
use Rattle.std.specs.List.{AllByRecursion, flat_map}
use Rattle.df_base.specs.declared.pos.Pos.{Pos}
use Rattle.df_tok.specs.declared.word.Word.{Word}
use Rattle.df_tok.specs.declared.sign.Sign.{Sign}
use Rattle.df_tok.specs.declared.sign.Sign.TheVariants as signs
use Rattle.df_tok.specs.declared.token.Kind.{Kind}
use Rattle.df_tok.specs.declared.token.Kind.TheVariants as kinds
use Rattle.df_tok.specs.Token.{Token}
use Rattle.df_tok.specs.Lexeme.{IsText}
use Rattle.df_ntree.specs.declared.tree.Ident.{Ident}

-- a token as a tree spells it: what it is, with its place where the tree keeps one; or a string literal with these characters
pub data Piece : Type 0 where
  Plain : (kind : Kind) (place : Option Pos) → Piece
  Characters : List ℕ → Piece

abbrev pub IsAt : Option Pos → Pos → Type 0
IsAt None pos = Unit {0}
IsAt (Some place) pos = pos ≡ place

-- a token is the piece
abbrev pub IsPiece : Piece → Token → Type 0
IsPiece (Plain kind place) token = (token.kind ≡ kind) × IsAt place token.pos
IsPiece (Characters characters) token = (token.kind ≡ kinds.Text) × IsText token.text characters

-- the tokens begin with these pieces, and then come the rest
abbrev pub Begins : List Piece → List Token → List Token → Type 0
Begins [] tokens rest = tokens ≡ rest
Begins (piece ∷ pieces) [] rest = ⊥
Begins (piece ∷ pieces) (token ∷ tokens) rest = IsPiece piece token × Begins pieces tokens rest

-- ---- one token

abbrev pub a_word : Word → Piece
a_word word = Plain (kinds.Word word) None

abbrev pub a_sign : Sign → Piece
a_sign sign = Plain (kinds.Sign sign) None

-- a word where the tree has it
abbrev pub word_there : Word → Pos → Piece
word_there word pos = Plain (kinds.Word word) (Some pos)

-- a sign where the tree has it
abbrev pub sign_there : Sign → Pos → Piece
sign_there sign pos = Plain (kinds.Sign sign) (Some pos)

abbrev pub a_name : Ident → Piece
a_name ident = Plain (kinds.Name ident.name) (Some ident.pos)

-- ---- lists and options

-- what begins with a comma
abbrev pub spell_more : {X : Type 0} → (X → List Piece) → X → List Piece
spell_more spell_one x = a_sign signs.Comma ∷ spell_one x

-- [ one { "," one } ]
abbrev pub separated : {X : Type 0} → (X → List Piece) → List X → List Piece
separated spell_one [] = []
separated spell_one (first ∷ others) = spell_one first ++ flat_map (spell_more spell_one) others

-- [ one ]
abbrev pub optional : {X : Type 0} → (X → List Piece) → Option X → List Piece
optional spell_one None = []
optional spell_one (Some x) = spell_one x

abbrev pub IsOption : {X : Type 0} → (X → Type 0) → Option X → Type 0
IsOption Is None = Unit {0}
IsOption Is (Some x) = Is x

-- at least one, and each has the property
abbrev pub AreSome : {X : Type 0} → (X → Type 0) → List X → Type 0
AreSome Is xs = (xs ≢ []) × AllByRecursion Is xs
