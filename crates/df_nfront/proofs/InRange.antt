-- The numbers and characters of a source's file are those that tokens may have.
use Rattle.std.proofs.Common.{◌≡◌, ℕ, ◌<◌, ◌^◌, inl, inr, Bool, true, false, cond, List, [], ◌∷◌, Option, Some, None, refl, sym, subst, arith}
use Rattle.std.specs.Prelude.{nat_lt, nat_le, nat_eq, not, ◌&&◌, ◌||◌}
use Rattle.std.specs.List.{list_all, AllByRecursion}
use Rattle.std.proofs.lemmas.Bool.{lt-ltb, leb-true, eqb-true, or_cases, and_from, and_parts}
use Rattle.std.proofs.lemmas.Option.{same_Some, none-some}
use Rattle.df_lemmas.proofs.Truths.{three, four}
use Rattle.df_base.specs.declared.pos.Pos.{Pos}
use Rattle.df_tok.specs.Byte.{is_plain_in_text, escaped}
use Rattle.df_tok.specs.Lexeme.{IsCharacter, Part, Plain, Escape, IsPart, AreParts}
use Rattle.df_tok.specs.declared.token.Kind.{Kind}
use Rattle.df_tok.specs.declared.token.Kind.TheVariants as kinds
use Rattle.df_tok.specs.Token.{Token, HasKind}
use Rattle.df_ntree.specs.Spelling as spelling
use Rattle.df_ntree.specs.Spelling.{IsPiece}
use Rattle.df_ntree.specs.File.{File}
use Rattle.df_ntree.specs.FileSpelling.{spell_file}
use Rattle.df_ntyping.specs.Literals.{is_in_range, AreInRange, IsReadFile}
use Rattle.df_nfront.specs.Source.{IsRead}
use Rattle.df_nfront.proofs.TokenKinds.{HasItsKind, pieces_all}

abbrev IsLow : ℕ → Type 0
IsLow c = nat_lt c 128 ≡ true

low : (c : ℕ) → c < 128 → IsLow c
low c less = lt-ltb c 128 less

-- ---- characters

chosen_low : (b : Bool) (x : ℕ) (rest : Option ℕ) (c : ℕ) → x < 128 → (rest ≡ Some c → IsLow c) → cond b (Some x) rest ≡ Some c → IsLow c
chosen_low true x rest c less others e = subst IsLow (same_Some x c e) (low x less)
chosen_low false x rest c less others e = others e

escaped_low : (e c : ℕ) → escaped e ≡ Some c → IsLow c
escaped_low e c =
    chosen_low (nat_eq e 110) 10 _ c (omega arith)
    (chosen_low (nat_eq e 114) 13 _ c (omega arith)
    (chosen_low (nat_eq e 116) 9 _ c (omega arith)
    (chosen_low (nat_eq e 48) 0 _ c (omega arith)
    (chosen_low (nat_eq e 92) 92 _ c (omega arith)
    (chosen_low (nat_eq e 39) 39 _ c (omega arith)
    (chosen_low (nat_eq e 34) 34 None c (omega arith) (λ none. absurd (none-some c none))))))))

character_low : (text : List ℕ) (c : ℕ) → IsCharacter text c → IsLow c
character_low text c (inl plain) =
    let parts = four (nat_le 32 c) (nat_le c 126) (not (nat_eq c 92)) (not (nat_eq c 39)) plain.0 in
    let most = leb-true c 126 parts.1 in
    low c (omega (arith, most))
character_low text c (inr (e, is, written)) = escaped_low e c is

plain_low : (c : ℕ) → is_plain_in_text c ≡ true → IsLow c
plain_low c is =
    let parts = three ((nat_le 32 c && nat_le c 126) || nat_eq c 9) (not (nat_eq c 92)) (not (nat_eq c 34)) is in
    elim (or_cases (nat_le 32 c && nat_le c 126) (nat_eq c 9) parts.0) [
      | inl visible ↦ let most = leb-true c 126 (and_parts (nat_le 32 c) (nat_le c 126) visible).1 in low c (omega (arith, most))
      | inr tab ↦ let same = eqb-true c 9 tab in low c (omega (arith, same))
    ]

part_low : (part : Part) (text : List ℕ) (c : ℕ) → IsPart part text c → IsLow c
part_low (Plain b) text c is = subst IsLow (sym is.2) (plain_low b is.0)
part_low (Escape e) text c is = escaped_low e c is.0

parts_low : (parts : List Part) (text cs : List ℕ) → AreParts parts text cs → list_all (λ (c : ℕ). nat_lt c 128) cs ≡ true
parts_low [] text cs h = rw h.1 refl
parts_low (part ∷ parts) text cs (front, rest, c, others, written, same, is, more) =
    rw same (and_from _ _ (part_low part front c is) (parts_low parts rest others more))

-- ---- pieces

kind_in_range : (before : List (List ℕ)) (text : List ℕ) (kind : Kind) (after : List (List ℕ)) (place : Option Pos) → HasKind before text kind after → is_in_range (spelling.Plain kind place) ≡ true
kind_in_range before text (kinds.Name name) after place h = refl
kind_in_range before text (kinds.Outside name) after place h = refl
kind_in_range before text kinds.Wildcard after place h = refl
kind_in_range before text (kinds.Word word) after place h = refl
kind_in_range before text (kinds.Number n) after place h = lt-ltb n (2 ^ 127) h.2
kind_in_range before text (kinds.Character c) after place h = character_low text c h.0
kind_in_range before text kinds.Text after place h = refl
kind_in_range before text (kinds.Sign sign) after place h = refl

piece_in_range : (last : List (List ℕ)) (piece : spelling.Piece) (token : Token) → IsPiece piece token → HasItsKind last token → is_in_range piece ≡ true
piece_in_range last (spelling.Plain kind place) token is it =
    subst (λ (k : Kind). is_in_range (spelling.Plain k place) ≡ true) is.0 (kind_in_range it.before token.text token.kind it.after place it.has)
piece_in_range last (spelling.Characters characters) token is it = parts_low is.1.0 is.1.1 characters is.1.3

all_true : (pieces : List spelling.Piece) → AllByRecursion (λ (piece : spelling.Piece). is_in_range piece ≡ true) pieces → AreInRange pieces
all_true [] h = refl
all_true (piece ∷ pieces) h = and_from _ _ h.0 (all_true pieces h.1)

-- ---- files

-- numbers are at most 2^127 - 1, and characters are of the 128
pub read_in_range : (source : List ℕ) (names : List (List ℕ)) (file : File) → IsRead source names file → IsReadFile file
read_in_range source names file read =
    (read.spelled.0, all_true (spell_file file) (pieces_all names (λ (piece : spelling.Piece). is_in_range piece ≡ true) (piece_in_range names) source read.tokens (spell_file file) read.divided.divided read.spelled.1))
