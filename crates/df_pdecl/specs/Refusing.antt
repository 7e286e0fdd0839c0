-- Which refusal a source that spells no file gets.
use Rattle.std.specs.Prelude.{◌≡◌, ℕ, Bool, true, false, ◌&&◌, ◌||◌, List, [], ◌∷◌, Option, Some, None, codes as text_codes, if◌then◌else◌}
use Rattle.df_base.specs.Names.{same_text}
use Rattle.df_base.specs.declared.pos.Pos.{Pos}
use Rattle.df_base.specs.declared.refusal.Code.TheVariants as codes
use Rattle.df_base.specs.declared.refusal.Detail.TheVariants as details
use Rattle.df_base.specs.declared.refusal.Refusal.{Refusal}
use Rattle.df_tok.specs.declared.sign.Sign.TheVariants as signs
use Rattle.df_tok.specs.declared.word.Word.TheVariants as words
use Rattle.df_tok.specs.declared.token.Kind.{Kind}
use Rattle.df_tok.specs.declared.token.Kind.TheVariants as kinds
use Rattle.df_tok.specs.Token.{Token}

-- the refusal of a token that is a word outside the language
abbrev pub outside_of : Token → Option Refusal
outside_of token = elim token.kind [
  | kinds.Outside name ↦ Some (record { code = codes.Outside; pos = token.pos; detail = details.Word name })
  | _ ↦ None
]

-- the first one, or else the refusal in the rest
abbrev pub or_else : Option Refusal → Option Refusal → Option Refusal
or_else (Some refusal) rest = Some refusal
or_else None rest = rest

-- `{:` begins an attribute
abbrev pub begins_attribute : Kind → Bool
begins_attribute (kinds.Sign signs.OpenAttribute) = true
begins_attribute kind = false

abbrev pub is_false : Kind → Bool
is_false (kinds.Word words.False) = true
is_false kind = false

abbrev pub begins_with_false : List Token → Bool
begins_with_false [] = false
begins_with_false (token ∷ tokens) = is_false token.kind

-- The attributes `axiom`, `extern` and `verify false` are outside the language.
abbrev pub is_attribute_outside : List ℕ → List Token → Bool
is_attribute_outside text after = same_text (text_codes "axiom") text || (same_text (text_codes "extern") text || (same_text (text_codes "verify") text && begins_with_false after))

-- the refusal of the name of an attribute
abbrev pub attribute_outside : Kind → Pos → List ℕ → List Token → Option Refusal
attribute_outside (kinds.Name name) pos text after = if is_attribute_outside text after then Some (record { code = codes.Outside; pos = pos; detail = details.Word name }) else None
attribute_outside kind pos text after = None

-- the refusal of an attribute by its name, which comes first
abbrev pub named_outside : List Token → Option Refusal
named_outside [] = None
named_outside (name ∷ after) = attribute_outside name.kind name.pos name.text after

-- the refusal of a token that is a word outside the language, or begins an attribute outside it
abbrev pub outside_at : Token → List Token → Option Refusal
outside_at token after = or_else (outside_of token) (if begins_attribute token.kind then named_outside after else None)

-- the refusal of the first one
abbrev pub first_outside : List Token → Option Refusal
first_outside [] = None
first_outside (token ∷ tokens) = or_else (outside_at token tokens) (first_outside tokens)

-- A word outside the language comes first, and else the syntax is refused, with nothing more told.
abbrev pub IsRefusalOr : Option Refusal → Refusal → Type 0
IsRefusalOr (Some outside) refusal = refusal ≡ outside
IsRefusalOr None refusal = (refusal.code ≡ codes.Syntax) × (refusal.detail ≡ details.Nothing)

abbrev pub IsRefusal : List Token → Refusal → Type 0
IsRefusal tokens refusal = IsRefusalOr (first_outside tokens) refusal
