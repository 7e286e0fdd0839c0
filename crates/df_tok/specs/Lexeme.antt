-- The forms of lexemes: what a token's bytes may be.
use Rattle.std.specs.Prelude.{◌≡◌, ℕ, ◌+◌, ◌*◌, Bool, false, IsTrue, ◌==◌, ◌⊎◌, List, [], ◌∷◌, ◌++◌, Some, fold, drop, if◌then◌else◌, codes, nat_eq}
use Rattle.std.specs.List.{AllByRecursion, starts_with}
use Rattle.df_tok.specs.Byte.{is_digit, is_hex_digit, begins_identifier, continues_identifier, continues_number, is_plain_in_character, is_plain_in_text, escaped, digit_value}
use Rattle.df_tok.specs.Word.{word_text}
use Rattle.df_tok.specs.Sign.{sign_text}
use Rattle.df_tok.specs.declared.word.Word.{Word}
use Rattle.df_tok.specs.declared.sign.Sign.{Sign}
use Rattle.df_tok.specs.declared.sign.Sign.TheVariants.{NotIn}

-- the rest does not begin with such a byte
abbrev pub NotNext : (ℕ → Bool) → List ℕ → Type 0
NotNext test [] = Unit {0}
NotNext test (b ∷ bs) = test b ≡ false

-- a letter or `_`, then letters, digits, `_`, `'` and `?`
abbrev pub IsIdentifier : List ℕ → Type 0
IsIdentifier [] = ⊥
IsIdentifier (b ∷ bs) = IsTrue (begins_identifier b) × AllByRecursion (λ c. IsTrue (continues_identifier c)) bs

-- digits, with single `_` (95) allowed between two of them
abbrev pub AreDigits : (ℕ → Bool) → List ℕ → Type 0
AreDigits digit [] = ⊥
AreDigits digit (d ∷ []) = IsTrue (digit d)
AreDigits digit (d ∷ e ∷ rest) = IsTrue (digit d) × (AreDigits digit (e ∷ rest) ⊎ ((e ≡ 95) × AreDigits digit rest))

-- decimal digits, or `0x` (48, 120) and hexadecimal digits
abbrev pub IsNumber : List ℕ → Type 0
IsNumber text = AreDigits is_digit text ⊎ ((digits : List ℕ) × (text ≡ 48 ∷ 120 ∷ digits) × AreDigits is_hex_digit digits)

-- what digits stand for in a base; `_` counts nothing
abbrev pub value_of_digits : ℕ → List ℕ → ℕ
value_of_digits base digits = fold (λ v d. if d == 95 then v else v * base + digit_value d) 0 digits

abbrev pub value_of_number : List ℕ → ℕ
value_of_number text = if starts_with nat_eq text (codes "0x") then value_of_digits 16 (drop 2 text) else value_of_digits 10 text

-- a quote (39), one plain byte or a backslash (92) and the letter of an escape, a quote; and the character's code
abbrev pub IsCharacter : List ℕ → ℕ → Type 0
IsCharacter text c =
    (IsTrue (is_plain_in_character c) × (text ≡ 39 ∷ c ∷ 39 ∷ []))
    ⊎ ((e : ℕ) × (escaped e ≡ Some c) × (text ≡ 39 ∷ 92 ∷ e ∷ 39 ∷ []))

-- a part of a string literal: a byte that stands for itself, or the letter of an escape
pub data Part : Type 0 where
  Plain : ℕ → Part
  Escape : ℕ → Part

-- how a part is written (92 is a backslash), for the character that it stands for
abbrev pub IsPart : Part → List ℕ → ℕ → Type 0
IsPart (Plain b) text c = IsTrue (is_plain_in_text b) × (text ≡ b ∷ []) × (c ≡ b)
IsPart (Escape e) text c = (escaped e ≡ Some c) × (text ≡ 92 ∷ e ∷ [])

-- parts, for their characters
abbrev pub AreParts : List Part → List ℕ → List ℕ → Type 0
AreParts [] text cs = (text ≡ []) × (cs ≡ [])
AreParts (part ∷ parts) text cs =
    (front : List ℕ) × (rest : List ℕ) × (c : ℕ) × (others : List ℕ)
    × (text ≡ front ++ rest) × (cs ≡ c ∷ others) × IsPart part front c × AreParts parts rest others

-- a double quote (34), parts, a double quote; and the characters
abbrev pub IsText : List ℕ → List ℕ → Type 0
IsText text cs = (parts : List Part) × (inner : List ℕ) × (text ≡ 34 ∷ (inner ++ 34 ∷ [])) × AreParts parts inner cs

-- a sign; `!in` only where no byte of an identifier follows
abbrev pub IsSign : List ℕ → List ℕ → Type 0
IsSign text rest = (sign : Sign) × (text ≡ sign_text sign) × (sign ≡ NotIn → NotNext continues_identifier rest)

-- a token's bytes, before the rest of the source
pub data IsLexeme (text rest : List ℕ) : Type 0 where
  identifier : IsIdentifier text → IsLexeme text rest
  number : IsNumber text → NotNext continues_number rest → IsLexeme text rest
  character : (c : ℕ) → IsCharacter text c → IsLexeme text rest
  string : (cs : List ℕ) → IsText text cs → IsLexeme text rest
  sign : IsSign text rest → IsLexeme text rest

-- one of the words of the language
abbrev pub IsWord : List ℕ → Type 0
IsWord text = (word : Word) × (text ≡ word_text word)
