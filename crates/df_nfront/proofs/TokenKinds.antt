-- Each token of a source has its kind, among names that stay.
use Rattle.std.proofs.Common.{◌≡◌, ℕ, Bool, true, false, cond, List, [], ◌∷◌, ◌++◌, slice_get, Some, sym, subst}
use Rattle.std.specs.List.{list_any, AllByRecursion}
use Rattle.df_lemmas.proofs.Lists.{get_grown}
use Rattle.df_base.specs.declared.pos.Pos.{Pos}
use Rattle.df_base.specs.Names.{same_text, with_text}
use Rattle.df_tok.specs.declared.token.Kind.{Kind}
use Rattle.df_tok.specs.declared.token.Kind.TheVariants as kinds
use Rattle.df_tok.specs.Token.{Token, HasKind}
use Rattle.df_tok.specs.Division.{Piece, Blank, LineComment, BlockComment, Lexeme, AreDivided, tokens_of, Divides, after_byte, after_bytes, start}
use Rattle.df_ntree.specs.Spelling as spelling
use Rattle.df_ntree.specs.Spelling.{IsPiece, Begins}

-- what a name stands for, it stands for among the later names
abbrev pub Stay : List (List ℕ) → List (List ℕ) → Type 0
Stay names after = (n : ℕ) (text : List ℕ) → slice_get names n ≡ Some text → slice_get after n ≡ Some text

-- the token has its kind, among names that all are among the last
pub record HasItsKind (last : List (List ℕ)) (token : Token) : Type 0 where
  pub before : List (List ℕ)
  pub after : List (List ℕ)
  pub has : HasKind before token.text token.kind after
  pub stay : Stay after last

-- ---- names stay

same_stay : (names after : List (List ℕ)) → after ≡ names → Stay names after
same_stay names after e n text at = subst (λ (ns : List (List ℕ)). slice_get ns n ≡ Some text) (sym e) at

grown_stay : (found : Bool) (names : List (List ℕ)) (text : List ℕ) → Stay names (cond found names (names ++ text ∷ []))
grown_stay true names text n one at = at
grown_stay false names text n one at = get_grown names (text ∷ []) n one at

text_stay : (names : List (List ℕ)) (text : List ℕ) (after : List (List ℕ)) → after ≡ with_text names text → Stay names after
text_stay names text after e = subst (Stay names) (sym e) (grown_stay (list_any (same_text text) names) names text)

kind_stay : (names : List (List ℕ)) (text : List ℕ) (kind : Kind) (after : List (List ℕ)) → HasKind names text kind after → Stay names after
kind_stay names text (kinds.Name name) after h = text_stay names text after h.4.0
kind_stay names text (kinds.Outside name) after h = text_stay names text after h.1.0
kind_stay names text kinds.Wildcard after h = same_stay names after h.1
kind_stay names text (kinds.Word word) after h = same_stay names after h.1
kind_stay names text (kinds.Number n) after h = same_stay names after h.3
kind_stay names text (kinds.Character c) after h = same_stay names after h.1
kind_stay names text kinds.Text after h = same_stay names after h.1
kind_stay names text (kinds.Sign sign) after h = same_stay names after h.1

both_stay : (names between after : List (List ℕ)) → Stay names between → Stay between after → Stay names after
both_stay names between after first second n text at = second n text (first n text at)

-- ---- tokens

divided_kinds : (names : List (List ℕ)) (source : List ℕ) (pieces : List Piece) (last : List (List ℕ)) (pos : Pos) → AreDivided names source pieces last
    → Stay names last × AllByRecursion (HasItsKind last) (tokens_of pos pieces)
divided_kinds names source [] last pos h = (same_stay names last h.1, tt)
divided_kinds names source (Blank b ∷ pieces) last pos h =
    let rest = divided_kinds h.1 h.0 pieces last (after_byte pos b) h.4 in
    (both_stay names h.1 last (same_stay names h.1 h.3.1) rest.0, rest.1)
divided_kinds names source (LineComment text ∷ pieces) last pos h =
    let rest = divided_kinds h.1 h.0 pieces last (after_bytes pos text) h.4 in
    (both_stay names h.1 last (same_stay names h.1 h.3.2) rest.0, rest.1)
divided_kinds names source (BlockComment text ∷ pieces) last pos h =
    let rest = divided_kinds h.1 h.0 pieces last (after_bytes pos text) h.4 in
    (both_stay names h.1 last (same_stay names h.1 h.3.1) rest.0, rest.1)
divided_kinds names source (Lexeme kind text ∷ pieces) last pos h =
    let rest = divided_kinds h.1 h.0 pieces last (after_bytes pos text) h.4 in
    (both_stay names h.1 last (kind_stay names text kind h.1 h.3.3) rest.0, (record { before = names; after = h.1; has = h.3.3; stay = rest.0 }, rest.1))

tokens_kinds : (names : List (List ℕ)) (source : List ℕ) (tokens : List Token) (last : List (List ℕ)) → Divides names source tokens last → AllByRecursion (HasItsKind last) tokens
tokens_kinds names source tokens last h = subst (AllByRecursion (HasItsKind last)) (sym h.2) (divided_kinds names source h.0 last start h.1).1

-- ---- what they spell

module _ (last : List (List ℕ)) (P : spelling.Piece → Type 0) (by : (piece : spelling.Piece) (token : Token) → IsPiece piece token → HasItsKind last token → P piece) where
  spelled_all : (pieces : List spelling.Piece) (tokens rest : List Token) → Begins pieces tokens rest → AllByRecursion (HasItsKind last) tokens → AllByRecursion P pieces
  spelled_all [] tokens rest begins kinds = tt
  spelled_all (piece ∷ pieces) [] rest begins kinds = absurd begins
  spelled_all (piece ∷ pieces) (token ∷ tokens) rest begins kinds = (by piece token begins.0 kinds.0, spelled_all pieces tokens rest begins.1 kinds.1)

  -- what holds of each piece that a token of this source is holds of all that its tokens spell
  pub pieces_all : (source : List ℕ) (tokens : List Token) (pieces : List spelling.Piece) → Divides [] source tokens last → Begins pieces tokens [] → AllByRecursion P pieces
  pieces_all source tokens pieces divided begins = spelled_all pieces tokens [] begins (tokens_kinds [] source tokens last divided)
