-- No two names of a source are one text.
use Rattle.std.proofs.Common.{◌≡◌, ◌⊎◌, inl, inr, ℕ, Bool, true, false, cond, List, [], ◌∷◌, ◌++◌, length, slice_get, Some, refl, sym, subst, ◌∙◌}
use Rattle.std.specs.List.{list_any}
use Rattle.std.proofs.lemmas.Bool.{false≢true}
use Rattle.std.proofs.lemmas.List.Folds.{list_any_at}
use Rattle.std.proofs.lemmas.Option.{slice_get_within, get_or_from_slice_get}
use Rattle.df_lemmas.proofs.Lists.{get_pushed}
use Rattle.df_base.specs.Names.{same_text, with_text, IsDistinct}
use Rattle.df_base.proofs.NamesLemmas.{same_text-refl}
use Rattle.df_tok.specs.declared.token.Kind.{Kind}
use Rattle.df_tok.specs.declared.token.Kind.TheVariants as kinds
use Rattle.df_tok.specs.Token.{Token, HasKind}
use Rattle.df_tok.specs.Division.{Piece, Blank, LineComment, BlockComment, Lexeme, AreDivided, Divides}

-- a text that stands there is found
is_found : (texts : List (List ℕ)) (n : ℕ) (text : List ℕ) → slice_get texts n ≡ Some text → list_any (same_text text) texts ≡ true
is_found texts n text at =
    list_any_at (same_text text) texts n text (slice_get_within texts n text at)
    (subst (λ (one : List ℕ). same_text text one ≡ true) (sym (get_or_from_slice_get texts n text text at)) (same_text-refl text))

-- ---- one text more

module _ (texts : List (List ℕ)) (distinct : IsDistinct texts) (text : List ℕ) where
  grown_distinct : list_any (same_text text) texts ≡ false → IsDistinct (texts ++ text ∷ [])
  grown_distinct none i j one at_i at_j = both (get_pushed texts text i one at_i) (get_pushed texts text j one at_j)
    where
      is_new : (n : ℕ) → slice_get texts n ≡ Some one → text ≡ one → ⊥
      is_new n at same = false≢true (sym none ∙ is_found texts n text (subst (λ (t : List ℕ). slice_get texts n ≡ Some t) (sym same) at))

      both : (slice_get texts i ≡ Some one) ⊎ ((i ≡ length texts) × (text ≡ one)) → (slice_get texts j ≡ Some one) ⊎ ((j ≡ length texts) × (text ≡ one)) → i ≡ j
      both (inl a) (inl b) = distinct i j one a b
      both (inl a) (inr b) = absurd (is_new i a b.1)
      both (inr a) (inl b) = absurd (is_new j b a.1)
      both (inr a) (inr b) = a.0 ∙ sym b.0

  by_search : (found : Bool) → list_any (same_text text) texts ≡ found → IsDistinct (cond found texts (texts ++ text ∷ []))
  by_search true e = distinct
  by_search false e = grown_distinct e

  with_distinct : (after : List (List ℕ)) → after ≡ with_text texts text → IsDistinct after
  with_distinct after same = subst IsDistinct (sym same) (by_search (list_any (same_text text) texts) refl)

-- ---- sources

same_distinct : (names after : List (List ℕ)) → IsDistinct names → after ≡ names → IsDistinct after
same_distinct names after distinct same = subst IsDistinct (sym same) distinct

kind_distinct : (names : List (List ℕ)) (text : List ℕ) (kind : Kind) (after : List (List ℕ)) → HasKind names text kind after → IsDistinct names → IsDistinct after
kind_distinct names text (kinds.Name name) after h distinct = with_distinct names distinct text after h.4.0
kind_distinct names text (kinds.Outside name) after h distinct = with_distinct names distinct text after h.1.0
kind_distinct names text kinds.Wildcard after h distinct = same_distinct names after distinct h.1
kind_distinct names text (kinds.Word word) after h distinct = same_distinct names after distinct h.1
kind_distinct names text (kinds.Number n) after h distinct = same_distinct names after distinct h.3
kind_distinct names text (kinds.Character c) after h distinct = same_distinct names after distinct h.1
kind_distinct names text kinds.Text after h distinct = same_distinct names after distinct h.1
kind_distinct names text (kinds.Sign sign) after h distinct = same_distinct names after distinct h.1

divided_distinct : (names : List (List ℕ)) (source : List ℕ) (pieces : List Piece) (last : List (List ℕ)) → AreDivided names source pieces last → IsDistinct names → IsDistinct last
divided_distinct names source [] last h distinct = same_distinct names last distinct h.1
divided_distinct names source (Blank b ∷ pieces) last h distinct = divided_distinct h.1 h.0 pieces last h.4 (same_distinct names h.1 distinct h.3.1)
divided_distinct names source (LineComment text ∷ pieces) last h distinct = divided_distinct h.1 h.0 pieces last h.4 (same_distinct names h.1 distinct h.3.2)
divided_distinct names source (BlockComment text ∷ pieces) last h distinct = divided_distinct h.1 h.0 pieces last h.4 (same_distinct names h.1 distinct h.3.1)
divided_distinct names source (Lexeme kind text ∷ pieces) last h distinct = divided_distinct h.1 h.0 pieces last h.4 (kind_distinct names text kind h.1 h.3.3 distinct)

none_distinct : IsDistinct []
none_distinct i j text at also = absurd cc

pub names_distinct : (source : List ℕ) (tokens : List Token) (last : List (List ℕ)) → Divides [] source tokens last → IsDistinct last
names_distinct source tokens last h = divided_distinct [] source h.0 last h.1 none_distinct
