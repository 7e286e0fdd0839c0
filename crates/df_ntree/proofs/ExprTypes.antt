-- Types, and the types after an operand: what is read is spelled so, and what is spelled so is read.
use Rattle.std.proofs.Common.{◌≡◌, true, false, cond, List, [], ◌∷◌, Bool, Some, None, refl, ap, subst, ◌∙◌, arith}
use Rattle.std.specs.List.{AllByRecursion, flat_map}
use Rattle.std.proofs.lemmas.Option.{cond_some}
use Rattle.df_base.specs.declared.pos.Pos.{Pos}
use Rattle.df_tok.specs.declared.word.Word.TheVariants as words
use Rattle.df_tok.specs.declared.token.Kind.{Kind}
use Rattle.df_tok.specs.declared.token.Kind.TheVariants as kinds
use Rattle.df_tok.specs.Token.{Token}
use Rattle.df_ntree.specs.declared.expr.BasicType.{BasicType}
use Rattle.df_ntree.specs.declared.expr.BasicType.TheVariants as basics
use Rattle.df_ntree.specs.declared.expr.TreeType.{TreeType}
use Rattle.df_ntree.specs.declared.expr.TreeType.TheVariants as types
use Rattle.df_ntree.specs.Operator.{basic_word, is_cast_target}
use Rattle.df_ntree.specs.Spelling.{Begins}
use Rattle.df_ntree.specs.ExprSpelling.{spell_type, spell_cast, IsCastTarget}
use Rattle.df_ntree.specs.mirror.Reading.{word_stands, after_word}
use Rattle.df_ntree.specs.mirror.ExprReading.{type_by, type_at, if_cast_target, cast_target_at, casts_at}
use Rattle.df_ntree.proofs.Repeat.{found, pair, got, finish, differ}
use Rattle.df_ntree.proofs.Readers.{ReadsAs, Anything, Any, NotThen, Sibling, word_reads, many_reads, many_stops, made_if_sound, made_if_complete, word_shows}

sound_by : (t : Token) (kind : Kind) → t.kind ≡ kind → (tokens : List Token) (x : TreeType) (rest : List Token) → type_by kind t.pos tokens ≡ Some (x, rest) → Begins (spell_type x) (t ∷ tokens) rest
sound_by t (kinds.Word words.Int) k tokens x rest e = finish (λ (y : TreeType) (ts : List Token). Begins (spell_type y) (t ∷ tokens) ts) (types.Basic basics.Int t.pos) x tokens rest e ((k, refl), refl)
sound_by t (kinds.Word words.Nat) k tokens x rest e = finish (λ (y : TreeType) (ts : List Token). Begins (spell_type y) (t ∷ tokens) ts) (types.Basic basics.Nat t.pos) x tokens rest e ((k, refl), refl)
sound_by t (kinds.Word words.Bool) k tokens x rest e = finish (λ (y : TreeType) (ts : List Token). Begins (spell_type y) (t ∷ tokens) ts) (types.Basic basics.Bool t.pos) x tokens rest e ((k, refl), refl)
sound_by t (kinds.Word words.Char) k tokens x rest e = finish (λ (y : TreeType) (ts : List Token). Begins (spell_type y) (t ∷ tokens) ts) (types.Basic basics.Char t.pos) x tokens rest e ((k, refl), refl)
sound_by t (kinds.Name name) k tokens x rest e = finish (λ (y : TreeType) (ts : List Token). Begins (spell_type y) (t ∷ tokens) ts) (types.Named (record { name = name; pos = t.pos })) x tokens rest e ((k, refl), refl)
sound_by t _ k tokens x rest e = absurd (differ (pair x rest) e)

pub type_sound : (tokens : List Token) (x : TreeType) (rest : List Token) → type_at tokens ≡ Some (x, rest) → Begins (spell_type x) tokens rest
unfolding type_at
type_sound [] x rest e = absurd (differ (pair x rest) e)
type_sound (t ∷ tokens) x rest e = sound_by t t.kind refl tokens x rest e

basic_by : (basic : BasicType) (pos : Pos) (tokens : List Token) → type_by (kinds.Word (basic_word basic)) pos tokens ≡ Some (types.Basic basic pos, tokens)
basic_by basics.Int pos tokens = refl
basic_by _ pos tokens = refl

pub type_complete : (x : TreeType) (tokens rest : List Token) → Begins (spell_type x) tokens rest → type_at tokens ≡ Some (x, rest)
unfolding type_at
type_complete (types.Basic basic pos) [] rest b = absurd b
type_complete (types.Basic basic pos) (t ∷ tokens) rest b =
    ap (λ (k : Kind). type_by k t.pos tokens) b.0.0 ∙ basic_by basic t.pos tokens
    ∙ ap (λ (p : Pos). got (types.Basic basic p) tokens) b.0.1 ∙ ap (λ (ts : List Token). got (types.Basic basic pos) ts) b.1
type_complete (types.Named ident) [] rest b = absurd b
type_complete (types.Named ident) (t ∷ tokens) rest b =
    ap (λ (k : Kind). type_by k t.pos tokens) b.0.0
    ∙ ap (λ (p : Pos). got (types.Named (record { name = ident.name; pos = p })) tokens) b.0.1 ∙ ap (λ (ts : List Token). got (types.Named ident) ts) b.1

pub type_reads : ReadsAs type_at spell_type (Anything {X = TreeType}) Any
type_reads = record {
  sound = λ x tokens rest e. (type_sound tokens x rest e, tt);
  complete = λ x tokens rest starts is after. type_complete x tokens rest starts;
}

-- ---- what may follow `as`

cast_target_reads : ReadsAs cast_target_at spell_type IsCastTarget Any
unfolding cast_target_at
cast_target_reads = record {
  sound = λ x tokens rest e.
      let a = made_if_sound if_cast_target type_at x tokens rest e in
      let g = cond_some (is_cast_target a.0) a.0 x a.2 in
      (subst (λ (y : TreeType). Begins (spell_type y) tokens rest) g.1 (type_sound tokens a.0 rest a.1), subst IsCastTarget g.1 g.0);
  complete = λ x tokens rest starts is after.
      made_if_complete if_cast_target type_at x x tokens rest (type_complete x tokens rest starts) (ap (λ (b : Bool). cond b (found x) None) is);
}

cast_sibling : Sibling spell_cast IsCastTarget Any (word_stands words.As)
cast_sibling = record {
  shows = λ x tokens rest starts is. word_shows words.As (kinds.Word words.As) None (spell_type x) tokens rest true refl starts;
  begins = λ _ _ _ _ _. tt;
  long = λ x is. omega arith;
}

pub next_cast_reads : ReadsAs (after_word words.As cast_target_at) spell_cast IsCastTarget Any
next_cast_reads = word_reads words.As cast_target_at spell_type IsCastTarget Any cast_target_reads

pub casts_reads : ReadsAs casts_at (flat_map spell_cast) (AllByRecursion IsCastTarget) (NotThen (word_stands words.As) Any)
unfolding casts_at
casts_reads = many_reads (word_stands words.As) (after_word words.As cast_target_at) spell_cast IsCastTarget Any next_cast_reads cast_sibling

-- no further type stands where reading ends
pub casts_stop : (all : List TreeType) (tokens rest : List Token) → casts_at tokens ≡ Some (all, rest) → word_stands words.As rest ≡ false
unfolding casts_at
casts_stop all tokens rest e = many_stops (word_stands words.As) (after_word words.As cast_target_at) all tokens rest e
