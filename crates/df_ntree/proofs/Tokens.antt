-- Tokens at the front: what is read is spelled so, and what is spelled so is read.
use Rattle.std.proofs.Common.{◌≡◌, ◌+◌, true, List, [], ◌∷◌, ◌++◌, length, Option, Some, None, refl, sym, ap, subst, ◌∙◌, arith}
use Rattle.std.proofs.lemmas.Option.{cond_some}
use denote.Enum.Bare.{same_true, true_same}
use Rattle.df_base.specs.declared.pos.Pos.{Pos}
use Rattle.df_tok.specs.contracts.word.Word as declared_word
use Rattle.df_tok.specs.contracts.sign.Sign as declared_sign
use Rattle.df_tok.specs.declared.word.Word.{Word}
use Rattle.df_tok.specs.declared.sign.Sign.{Sign}
use Rattle.df_tok.specs.declared.token.Kind.{Kind}
use Rattle.df_tok.specs.declared.token.Kind.TheVariants as kinds
use Rattle.df_tok.specs.Token.{Token}
use Rattle.df_ntree.specs.declared.tree.Ident.{Ident}
use Rattle.df_ntree.specs.Spelling.{Piece, Plain, Characters, Begins, a_word, a_sign, a_name}
use Rattle.df_ntree.specs.mirror.Reading.{is_word, is_sign, word_at, sign_at, name_at, kind_at}
use Rattle.df_ntree.proofs.Repeat.{found, got, finish}

-- ---- pieces from the front

pub Begins-then : (a b : List Piece) (tokens between rest : List Token) → Begins a tokens between → Begins b between rest → Begins (a ++ b) tokens rest
Begins-then [] b tokens between rest p q = subst (λ (ts : List Token). Begins b ts rest) (sym p) q
Begins-then (w ∷ a) b [] between rest p q = absurd p
Begins-then (w ∷ a) b (t ∷ tokens) between rest p q = (p.0, Begins-then a b tokens between rest p.1 q)

pub record Parts (a b : List Piece) (tokens rest : List Token) : Type 0 where
  pub between : List Token
  pub first : Begins a tokens between
  pub second : Begins b between rest

pub Begins-parts : (a b : List Piece) (tokens rest : List Token) → Begins (a ++ b) tokens rest → Parts a b tokens rest
Begins-parts [] b tokens rest p = record { between = tokens; first = refl; second = p }
Begins-parts (w ∷ a) b [] rest p = absurd p
Begins-parts (w ∷ a) b (t ∷ tokens) rest p =
    let q = Begins-parts a b tokens rest p.1 in
    record { between = q.between; first = (p.0, q.first); second = q.second }

pub Begins-length : (a : List Piece) (tokens rest : List Token) → Begins a tokens rest → length tokens ≡ length a + length rest
Begins-length [] tokens rest p = rw p (omega arith)
Begins-length (w ∷ a) [] rest p = absurd p
Begins-length (w ∷ a) (t ∷ tokens) rest p = let e = Begins-length a tokens rest p.1 in omega arith

-- the kind of the token that stands there
pub kind_there : (kind : Kind) (place : Option Pos) (others : List Piece) (tokens rest : List Token) → Begins (Plain kind place ∷ others) tokens rest → kind_at tokens ≡ Some kind
kind_there kind place others [] rest p = absurd p
kind_there kind place others (t ∷ tokens) rest p = ap (λ (k : Kind). found k) p.0.0

-- the kind of the first piece
abbrev pub head_kind : List Piece → Option Kind
head_kind [] = None
head_kind (Plain kind place ∷ pieces) = Some kind
head_kind (Characters characters ∷ pieces) = Some kinds.Text

pub head_there : (pieces : List Piece) (kind : Kind) (tokens rest : List Token) → head_kind pieces ≡ Some kind → Begins pieces tokens rest → kind_at tokens ≡ Some kind
head_there [] kind tokens rest h p = absurd (let e : None ≡ found kind = h in cc)
head_there (Plain k place ∷ pieces) kind tokens rest h p = kind_there k place pieces tokens rest p ∙ h
head_there (Characters characters ∷ pieces) kind [] rest h p = absurd p
head_there (Characters characters ∷ pieces) kind (t ∷ tokens) rest h p = ap (λ (k : Kind). found k) p.0.0 ∙ h

-- ---- words and signs

pub word_true : (word : Word) (kind : Kind) → is_word word kind ≡ true → kind ≡ kinds.Word word
word_true word (kinds.Word other) e = ap kinds.Word (same_true declared_word.the_type tt other word e)
word_true word _ e = absurd cc

pub word_is : (word : Word) (kind : Kind) → kind ≡ kinds.Word word → is_word word kind ≡ true
word_is word kind e = subst (λ (k : Kind). is_word word k ≡ true) (sym e) (true_same declared_word.the_type word word refl)

pub sign_true : (sign : Sign) (kind : Kind) → is_sign sign kind ≡ true → kind ≡ kinds.Sign sign
sign_true sign (kinds.Sign other) e = ap kinds.Sign (same_true declared_sign.the_type tt other sign e)
sign_true sign _ e = absurd cc

pub sign_is : (sign : Sign) (kind : Kind) → kind ≡ kinds.Sign sign → is_sign sign kind ≡ true
sign_is sign kind e = subst (λ (k : Kind). is_sign sign k ≡ true) (sym e) (true_same declared_sign.the_type sign sign refl)

pub word_sound : (word : Word) (tokens rest : List Token) → word_at word tokens ≡ Some rest → Begins (a_word word ∷ []) tokens rest
unfolding word_at
word_sound word [] rest e = absurd cc
word_sound word (t ∷ tokens) rest e = let g = cond_some (is_word word t.kind) tokens rest e in ((word_true word t.kind g.0, tt), g.1)

pub word_complete : (word : Word) (tokens rest : List Token) → Begins (a_word word ∷ []) tokens rest → word_at word tokens ≡ Some rest
unfolding word_at
word_complete word [] rest p = absurd p
word_complete word (t ∷ tokens) rest p = rw (word_is word t.kind p.0.0) (ap Some p.1)

pub sign_sound : (sign : Sign) (tokens rest : List Token) → sign_at sign tokens ≡ Some rest → Begins (a_sign sign ∷ []) tokens rest
unfolding sign_at
sign_sound sign [] rest e = absurd cc
sign_sound sign (t ∷ tokens) rest e = let g = cond_some (is_sign sign t.kind) tokens rest e in ((sign_true sign t.kind g.0, tt), g.1)

pub sign_complete : (sign : Sign) (tokens rest : List Token) → Begins (a_sign sign ∷ []) tokens rest → sign_at sign tokens ≡ Some rest
unfolding sign_at
sign_complete sign [] rest p = absurd p
sign_complete sign (t ∷ tokens) rest p = rw (sign_is sign t.kind p.0.0) (ap Some p.1)

-- ---- names

name_by : (kind : Kind) (pos : Pos) (tokens : List Token) (x : Ident) (rest : List Token)
    → elim kind as (λ _. Option (Ident × List Token)) [ kinds.Name name ↦ Some (record { name = name; pos = pos }, tokens) | _ ↦ None ] ≡ got x rest → (kind ≡ kinds.Name x.name) × (pos ≡ x.pos) × (tokens ≡ rest)
name_by (kinds.Name name) pos tokens x rest e =
    finish (λ (y : Ident) (r : List Token). (kinds.Name name ≡ kinds.Name y.name) × (pos ≡ y.pos) × (tokens ≡ r)) (record { name = name; pos = pos }) x tokens rest e (refl, refl, refl)
name_by _ pos tokens x rest e = absurd cc

pub name_sound : (tokens rest : List Token) (x : Ident) → name_at tokens ≡ Some (x, rest) → Begins (a_name x ∷ []) tokens rest
unfolding name_at
name_sound [] rest x e = absurd cc
name_sound (t ∷ tokens) rest x e = let g = name_by t.kind t.pos tokens x rest e in ((g.0, g.1), g.2)

pub name_complete : (x : Ident) (tokens rest : List Token) → Begins (a_name x ∷ []) tokens rest → name_at tokens ≡ Some (x, rest)
unfolding name_at
name_complete x [] rest p = absurd p
name_complete x (t ∷ tokens) rest p = rw (p.0.0, p.0.1, p.1) refl
