-- Tokens as contracts see them.
use Rattle.std.specs.Prelude.{◌≡◌, ◌≢◌, ℕ, ◌<◌, ◌^◌, List, Some, position, codes}
use Rattle.df_base.specs.Names.{same_text, with_text}
use Rattle.df_base.specs.declared.pos.Pos.{Pos}
use Rattle.df_tok.specs.declared.token.Kind.{Kind}
use Rattle.df_tok.specs.declared.token.Kind.TheVariants as kinds
use Rattle.df_tok.specs.declared.token.Token as declared
use Rattle.df_tok.specs.Word.{word_text}
use Rattle.df_tok.specs.Outside.{IsOutside}
use Rattle.df_tok.specs.Sign.{sign_text}
use Rattle.df_tok.specs.Lexeme.{IsIdentifier, IsNumber, value_of_number, IsCharacter, IsText, IsWord}

-- a token: what it is, its bytes, and where they begin
pub record Token : Type 0 where
  pub kind : Kind
  pub text : List ℕ
  pub pos : Pos

-- a token of the code, whose bytes are a slice of the source
abbrev pub view : declared.Token → Token
view t = record { kind = t.kind; text = t.text.now; pos = t.pos }

-- a text is among the names before or is the next, and this is its number
abbrev pub IsNamed : List (List ℕ) → List ℕ → ℕ → List (List ℕ) → Type 0
IsNamed before text name after = (after ≡ with_text before text) × (position (same_text text) after ≡ Some name)

-- The kind of a token with this text; names are numbered in order of first use.
abbrev pub HasKind : List (List ℕ) → List ℕ → Kind → List (List ℕ) → Type 0
HasKind before text (kinds.Name name) after =
    IsIdentifier text × (text ≢ codes "_") × ¬ IsWord text × ¬ IsOutside text × IsNamed before text name after
HasKind before text (kinds.Outside name) after = IsOutside text × IsNamed before text name after
HasKind before text kinds.Wildcard after = (text ≡ codes "_") × (after ≡ before)
HasKind before text (kinds.Word word) after = (text ≡ word_text word) × (after ≡ before)
HasKind before text (kinds.Number n) after = IsNumber text × (n ≡ value_of_number text) × (n < 2 ^ 127) × (after ≡ before)
HasKind before text (kinds.Character c) after = IsCharacter text c × (after ≡ before)
HasKind before text kinds.Text after = ((cs : List ℕ) × IsText text cs) × (after ≡ before)
HasKind before text (kinds.Sign sign) after = (text ≡ sign_text sign) × (after ≡ before)
