-- What was scanned: the form of a lexeme, and names that grow.
use Rattle.std.specs.Prelude.{◌≡◌, ℕ, ◌≤◌, List, ◌++◌, length}
use Rattle.df_tok.specs.Lexeme.{IsIdentifier, IsNumber, IsCharacter, IsText}
use Rattle.df_tok.specs.Sign.{sign_text}
use Rattle.df_tok.specs.declared.scan.Form.{Form}
use Rattle.df_tok.specs.declared.scan.Form.TheVariants.{Identifier, Number, Character, Text, Sign}

-- a text of this form
abbrev pub HasForm : Form → List ℕ → Type 0
HasForm Identifier text = IsIdentifier text
HasForm Number text = IsNumber text
HasForm (Character c) text = IsCharacter text c
HasForm Text text = (cs : List ℕ) × IsText text cs
HasForm (Sign sign) text = text ≡ sign_text sign

-- names with at most so many more
pub record Grows (before after : List (List ℕ)) (count : ℕ) : Type 0 where
  pub more : List (List ℕ)
  pub is : after ≡ before ++ more
  pub few : length more ≤ count
