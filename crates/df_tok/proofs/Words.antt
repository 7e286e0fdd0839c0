-- The words of the language, by their texts.
use Rattle.std.proofs.Common.{◌≡◌, ℕ, List, Option, Some, None, refl, sym, ap, ◌∙◌}
use Rattle.std.specs.Prelude.{MatchOption}
use Rattle.std.specs.List.{find}
use Rattle.std.proofs.lemmas.Slice.Eq.{bytes_eq-Decides}
use Rattle.std.proofs.lemmas.Option.{none-some, same_Some}
use Rattle.df_tok.specs.declared.word.Word.{Word}
use Rattle.df_tok.specs.declared.word.Word.TheVariants as all
use Rattle.df_tok.specs.Word.{word_text}
use Rattle.df_tok.specs.Words.{words}
use Rattle.df_tok.specs.Lexeme.{IsWord}
use Rattle.df_tok.specs.Scanning.{is_written}
use Rattle.df_tok.proofs.Lists.{find_passes}

-- a word is found by its text
pub word_again : (word : Word) → find (is_written (word_text word)) words ≡ Some word
word_again all.Array = refl
word_again all.ArrayOrNull = refl
word_again all.As = refl
word_again all.Assert = refl
word_again all.Bool = refl
word_again all.Break = refl
word_again all.By = refl
word_again all.Calc = refl
word_again all.Case = refl
word_again all.Char = refl
word_again all.Class = refl
word_again all.Constructor = refl
word_again all.Datatype = refl
word_again all.Decreases = refl
word_again all.Else = refl
word_again all.Ensures = refl
word_again all.Exists = refl
word_again all.False = refl
word_again all.Forall = refl
word_again all.Fresh = refl
word_again all.Function = refl
word_again all.Ghost = refl
word_again all.If = refl
word_again all.Import = refl
word_again all.In = refl
word_again all.Int = refl
word_again all.Invariant = refl
word_again all.Lemma = refl
word_again all.Match = refl
word_again all.Method = refl
word_again all.Modifies = refl
word_again all.Module = refl
word_again all.Nat = refl
word_again all.New = refl
word_again all.Newtype = refl
word_again all.Null = refl
word_again all.Object = refl
word_again all.ObjectOrNull = refl
word_again all.Old = refl
word_again all.Opened = refl
word_again all.Predicate = refl
word_again all.Print = refl
word_again all.Reads = refl
word_again all.Requires = refl
word_again all.Return = refl
word_again all.Returns = refl
word_again all.Seq = refl
word_again all.Set = refl
word_again all.String = refl
word_again all.Then = refl
word_again all.This = refl
word_again all.True = refl
word_again all.Var = refl
word_again all.While = refl
word_again all.Witness = refl

pub word_found : (text : List ℕ) → MatchOption (find (is_written text) words) (¬ IsWord text) (λ word. text ≡ word_text word)
word_found text = by (find (is_written text) words) refl
  where
    by : (found : Option Word) → find (is_written text) words ≡ found → MatchOption found (¬ IsWord text) (λ word. text ≡ word_text word)
    by None e = λ w. none-some w.0 (sym e ∙ ap (λ (t : List ℕ). find (is_written t) words) w.1 ∙ word_again w.0)
    by (Some word) e = (bytes_eq-Decides text (word_text word)).0 (find_passes (is_written text) words word e)

pub same_word : (a b : Word) → word_text a ≡ word_text b → a ≡ b
same_word a b e = same_Some a b (sym (word_again a) ∙ ap (λ (t : List ℕ). find (is_written t) words) e ∙ word_again b)
