-- What a line is read as, it is the line of.
use Rattle.std.proofs.Common.{◌≡◌, ℕ, ◌+◌, ◌^◌, List, [], ◌∷◌, ◌++◌, map, take, drop, Some, None, refl, sym, ap, subst, ◌∙◌, codes, lit≤}
use Rattle.std.specs.Option.{option_and_then, option_map}
use Rattle.std.specs.Fmt.{decimal}
use Rattle.std.proofs.lemmas.Option.{same_Some}
use Rattle.df_lemmas.proofs.Options.{then_some, map_some}
use Rattle.df_base.specs.Names.{same_text}
use Rattle.df_base.proofs.NamesLemmas.{same_text-equal}
use Rattle.df_form.specs.Log.{Step, Hypothesis, Goal, Connective, Schema, Propagation, Congruence, Linear, Split}
use Rattle.df_logtext.specs.Numeral.{number_of, integer_of}
use Rattle.df_logtext.specs.Words.{index_of, indices_of, literals_of, pairs_from, combinations_from}
use Rattle.df_logtext.specs.Arguments.{hypothesis_of, goal_of, connective_of, schema_of, colon, propagated_of, propagation_of, joined_of, congruence_of, combined_of, linear_of, split_of}
use Rattle.df_logtext.specs.StepText.{literal_word, letter, arguments}
use Rattle.df_logtext.specs.HasText.{HasLine}
use Rattle.df_logtext.proofs.Numerals.{number_read}
use Rattle.df_logtext.proofs.Placed.{placed, around}
use Rattle.df_logtext.proofs.WordsRead.{index_read, integer_read, indices_read, literals_read, pairs_read}
use Rattle.df_logtext.proofs.SumsRead.{combinations_read}

-- the words are those of a step with this letter
pub record IsRead (names : List (List ℕ)) (mark : List ℕ) (words : List (List ℕ)) (step : Step) : Type 0 where
  pub same : letter step ≡ mark
  pub texts : words ≡ arguments names step
  pub has : HasLine names step

module _ (names : List (List ℕ)) where
  pub hypothesis_read : (words : List (List ℕ)) (step : Step) → hypothesis_of words ≡ Some step → IsRead names (codes "h") words step
  hypothesis_read [] step e = absurd cc
  hypothesis_read (w ∷ []) step e =
      let t = map_some Hypothesis (index_of w) step e in
      let i = index_read w t.0 t.1 in
      let P : Step → Type 0 = λ s. IsRead names (codes "h") (w ∷ []) s in
      subst P t.2 (record { same = refl; texts = ap (λ x. x ∷ []) i.0; has = i.1 })
  hypothesis_read (w ∷ v ∷ ws) step e = absurd cc

  pub goal_read : (words : List (List ℕ)) (step : Step) → goal_of words ≡ Some step → IsRead names (codes "g") words step
  goal_read [] step e = let P : Step → Type 0 = λ s. IsRead names (codes "g") [] s in subst P (same_Some Goal step e) (record { same = refl; texts = refl; has = tt })
  goal_read (w ∷ ws) step e = absurd cc

  pub connective_read : (words : List (List ℕ)) (step : Step) → connective_of words ≡ Some step → IsRead names (codes "x") words step
  connective_read [] step e = absurd cc
  connective_read (w ∷ []) step e = absurd cc
  connective_read (w ∷ v ∷ []) step e =
      let t = then_some (λ n. option_map (Connective n) (index_of v)) (index_of w) step e in
      let u = map_some (Connective t.0) (index_of v) step t.2 in
      let i = index_read w t.0 t.1 in
      let j = index_read v u.0 u.1 in
      let P : Step → Type 0 = λ s. IsRead names (codes "x") (w ∷ v ∷ []) s in
      subst P u.2 (record { same = refl; texts = ap (λ x. x ∷ v ∷ []) i.0 ∙ ap (λ x. decimal t.0 ∷ x ∷ []) j.0; has = (i.1, j.1) })
  connective_read (w ∷ v ∷ u ∷ ws) step e = absurd cc

  pub split_read : (words : List (List ℕ)) (step : Step) → split_of words ≡ Some step → IsRead names (codes "s") words step
  split_read [] step e = absurd cc
  split_read (w ∷ []) step e = absurd cc
  split_read (w ∷ v ∷ []) step e =
      let t = then_some (λ n. option_map (Split n) (integer_of v)) (index_of w) step e in
      let u = map_some (Split t.0) (integer_of v) step t.2 in
      let i = index_read w t.0 t.1 in
      let j = integer_read v u.0 u.1 in
      let P : Step → Type 0 = λ s. IsRead names (codes "s") (w ∷ v ∷ []) s in
      subst P u.2 (record { same = refl; texts = ap (λ x. x ∷ v ∷ []) i.0 ∙ ap (λ x. decimal t.0 ∷ x ∷ []) j.0; has = (i.1, j.1) })
  split_read (w ∷ v ∷ u ∷ ws) step e = absurd cc

  pub schema_read : (words : List (List ℕ)) (step : Step) → schema_of words ≡ Some step → IsRead names (codes "a") words step
  schema_read [] step e = absurd cc
  schema_read (w ∷ []) step e = absurd cc
  schema_read (w ∷ v ∷ ws) step e =
      let t = then_some (λ s. option_and_then (λ k. option_map (Schema s k) (indices_of ws)) (number_of (2 ^ 32) v)) (number_of (2 ^ 8) w) step e in
      let u = then_some (λ k. option_map (Schema t.0 k) (indices_of ws)) (number_of (2 ^ 32) v) step t.2 in
      let x = map_some (Schema t.0 u.0) (indices_of ws) step u.2 in
      let i = number_read (2 ^ 8) w t.0 (lit≤ tt) (lit≤ tt) t.1 in
      let j = number_read (2 ^ 32) v u.0 (lit≤ tt) (lit≤ tt) u.1 in
      let k = indices_read ws x.0 x.1 in
      let P : Step → Type 0 = λ s. IsRead names (codes "a") (w ∷ v ∷ ws) s in
      subst P x.2 (record { same = refl; texts = ap (λ y. y ∷ v ∷ ws) i.0 ∙ ap (λ y. decimal t.0 ∷ y ∷ ws) j.0 ∙ ap (λ y. decimal t.0 ∷ decimal u.0 ∷ y) k.0; has = (i.1, j.1, k.1) })

  -- around the first colon
  colon_read : (words : List (List ℕ)) (at : ℕ) → colon words ≡ Some at → words ≡ take at words ++ codes ":" ∷ drop (at + 1) words
  colon_read words at e =
      let p = placed (λ word. same_text word (codes ":")) 0 words at e in
      let sides = around (λ word. same_text word (codes ":")) words at p in
      let is : p.x ≡ codes ":" = same_text-equal p.x (codes ":") p.passes in
      p.list ∙ ap (λ x. p.front ++ x ∷ p.back) is ∙ ap (λ x. x ++ codes ":" ∷ p.back) (sym sides.0) ∙ ap (λ x. take at words ++ codes ":" ∷ x) (sym sides.1)

  propagated_read : (clauses conclusion : List (List ℕ)) (step : Step) → propagated_of clauses conclusion ≡ Some step → IsRead names (codes "u") (clauses ++ codes ":" ∷ conclusion) step
  propagated_read clauses conclusion step e =
      let t = then_some (λ cs. option_map (Propagation cs) (literals_of conclusion)) (indices_of clauses) step e in
      let u = map_some (Propagation t.0) (literals_of conclusion) step t.2 in
      let i = indices_read clauses t.0 t.1 in
      let j = literals_read conclusion u.0 u.1 in
      let P : Step → Type 0 = λ s. IsRead names (codes "u") (clauses ++ codes ":" ∷ conclusion) s in
      subst P u.2 (record { same = refl; texts = ap (λ x. x ++ codes ":" ∷ conclusion) i.0 ∙ ap (λ x. map decimal t.0 ++ codes ":" ∷ x) j.0; has = (i.1, j.1) })

  pub propagation_read : (words : List (List ℕ)) (step : Step) → propagation_of words ≡ Some step → IsRead names (codes "u") words step
  propagation_read words step e =
      let t = then_some (λ at. propagated_of (take at words) (drop (at + 1) words)) (colon words) step e in
      let P : List (List ℕ) → Type 0 = λ ws. IsRead names (codes "u") ws step in
      subst P (sym (colon_read words t.0 t.1)) (propagated_read (take t.0 words) (drop (t.0 + 1) words) step t.2)

  joined_read : (conclusion named : List (List ℕ)) (step : Step) → joined_of conclusion named ≡ Some step → IsRead names (codes "e") (conclusion ++ codes ":" ∷ named) step
  joined_read conclusion named step e =
      let t = then_some (λ ls. option_map (Congruence ls) (pairs_from [] named)) (literals_of conclusion) step e in
      let u = map_some (Congruence t.0) (pairs_from [] named) step t.2 in
      let i = literals_read conclusion t.0 t.1 in
      let j = pairs_read named u.0 u.1 in
      let P : Step → Type 0 = λ s. IsRead names (codes "e") (conclusion ++ codes ":" ∷ named) s in
      subst P u.2 (record { same = refl; texts = ap (λ x. x ++ codes ":" ∷ named) i.0 ∙ ap (λ x. map literal_word t.0 ++ codes ":" ∷ x) j.0; has = (i.1, j.1) })

  pub congruence_read : (words : List (List ℕ)) (step : Step) → congruence_of words ≡ Some step → IsRead names (codes "e") words step
  congruence_read words step e =
      let t = then_some (λ at. joined_of (take at words) (drop (at + 1) words)) (colon words) step e in
      let P : List (List ℕ) → Type 0 = λ ws. IsRead names (codes "e") ws step in
      subst P (sym (colon_read words t.0 t.1)) (joined_read (take t.0 words) (drop (t.0 + 1) words) step t.2)

  combined_read : (conclusion sums : List (List ℕ)) (step : Step) → combined_of conclusion sums ≡ Some step → IsRead names (codes "l") (conclusion ++ codes ":" ∷ sums) step
  combined_read conclusion sums step e =
      let t = then_some (λ ls. option_map (Linear ls) (combinations_from [] None sums)) (literals_of conclusion) step e in
      let u = map_some (Linear t.0) (combinations_from [] None sums) step t.2 in
      let i = literals_read conclusion t.0 t.1 in
      let j = combinations_read sums u.0 u.1 in
      let P : Step → Type 0 = λ s. IsRead names (codes "l") (conclusion ++ codes ":" ∷ sums) s in
      subst P u.2 (record { same = refl; texts = ap (λ x. x ++ codes ":" ∷ sums) i.0 ∙ ap (λ x. map literal_word t.0 ++ codes ":" ∷ x) j.0; has = (i.1, j.1) })

  pub linear_read : (words : List (List ℕ)) (step : Step) → linear_of words ≡ Some step → IsRead names (codes "l") words step
  linear_read words step e =
      let t = then_some (λ at. combined_of (take at words) (drop (at + 1) words)) (colon words) step e in
      let P : List (List ℕ) → Type 0 = λ ws. IsRead names (codes "l") ws step in
      subst P (sym (colon_read words t.0 t.1)) (combined_read (take t.0 words) (drop (t.0 + 1) words) step t.2)
