-- What a line is read as, it is the line of.
use Rattle.std.proofs.Common.{◌≡◌, ℕ, Bool, true, false, cond, List, [], ◌∷◌, ◌++◌, map, Some, Option, refl, sym, ap, subst, ◌∙◌, inl, inr, codes, arith}
use Rattle.std.specs.Prelude.{nat_eq, ◌≢◌}
use Rattle.std.specs.Option.{option_map}
use Rattle.std.specs.List.{AllByRecursion}
use Rattle.std.specs.Fmt.{decimal, signed_decimal}
use Rattle.std.proofs.lemmas.Bool.{eqb-true}
use Rattle.df_lemmas.proofs.Options.{then_some, map_some}
use Rattle.df_lemmas.proofs.Truths.{choice}
use Rattle.df_lemmas.proofs.Alls.{all_joined}
use Rattle.df_base.specs.Names.{same_text}
use Rattle.df_base.proofs.NamesLemmas.{same_text-equal}
use Rattle.df_form.specs.declared.node.Op.TheVariants as ops
use Rattle.df_form.specs.Log.{Step, Make}
use Rattle.df_logtext.specs.Numeral.{integer_of}
use Rattle.df_logtext.specs.Parting.{parted_from, parted}
use Rattle.df_logtext.specs.Words.{indices_of, op_of}
use Rattle.df_logtext.specs.Arguments.{made_of, number_made_of, make_of, by_letter, step_of_words, read_step}
use Rattle.df_logtext.specs.StepText.{op_word, letter, arguments, step_line}
use Rattle.df_logtext.specs.HasText.{IsPlain, IsWord, HasLine}
use Rattle.df_logtext.specs.BadLog.{AreWithin}
use Rattle.df_logtext.proofs.Placed.{parts_join}
use Rattle.df_logtext.proofs.WordsRead.{integer_read, indices_read}
use Rattle.df_logtext.proofs.StepsRead.{IsRead, hypothesis_read, goal_read, connective_read, schema_read, propagation_read, congruence_read, linear_read, split_read}
use Rattle.df_logtext.proofs.OpsRead.{op_read}

number_made_read : (names : List (List ℕ)) (words : List (List ℕ)) (step : Step) → number_made_of words ≡ Some step → IsRead names (codes "n") (codes "num" ∷ words) step
number_made_read names [] step e = absurd cc
number_made_read names (w ∷ ws) step e =
    let t = then_some (λ o. option_map (λ ps. Make (record { op = o; parts = ps })) (indices_of ws)) (option_map (λ n. ops.Number n) (integer_of w)) step e in
    let o = map_some (λ n. ops.Number n) (integer_of w) t.0 t.1 in
    let u = map_some (λ ps. Make (record { op = t.0; parts = ps })) (indices_of ws) step t.2 in
    let i = integer_read w o.0 o.1 in
    let j = indices_read ws u.0 u.1 in
    let whole : Make (record { op = ops.Number o.0; parts = u.0 }) ≡ step = ap (λ op. Make (record { op = op; parts = u.0 })) o.2 ∙ u.2 in
    let P : Step → Type 0 = λ s. IsRead names (codes "n") (codes "num" ∷ w ∷ ws) s in
    subst P whole (record { same = refl; texts = ap (λ x. codes "num" ∷ x ∷ ws) i.0 ∙ ap (λ x. codes "num" ∷ signed_decimal o.0 ∷ x) j.0; has = (i.1, j.1) })

op_made_read : (names : List (List ℕ)) (word : List ℕ) (words : List (List ℕ)) (step : Step) → IsWord word → made_of (op_of names word) words ≡ Some step → IsRead names (codes "n") (word ∷ words) step
op_made_read names word words step plain e =
    let t = then_some (λ o. option_map (λ ps. Make (record { op = o; parts = ps })) (indices_of words)) (op_of names word) step e in
    let u = map_some (λ ps. Make (record { op = t.0; parts = ps })) (indices_of words) step t.2 in
    let o = op_read names word t.0 plain t.1 in
    let j = indices_read words u.0 u.1 in
    let P : Step → Type 0 = λ s. IsRead names (codes "n") (word ∷ words) s in
    subst P u.2 (record { same = refl; texts = ap (λ x. x ∷ words) o.text ∙ ap (λ x. op_word names t.0 ∷ x) j.0 ∙ ap (λ x. op_word names t.0 ∷ (x ++ map decimal u.0)) (sym o.alone); has = (o.has, j.1) })

make_read : (names : List (List ℕ)) (words : List (List ℕ)) (step : Step) → AllByRecursion IsWord words → make_of names words ≡ Some step → IsRead names (codes "n") words step
make_read names [] step plain e = absurd cc
make_read names (w ∷ ws) step plain e =
    elim (choice (same_text w (codes "num")) (number_made_of ws) (made_of (op_of names w) ws) (Some step) e) [
      | inl p ↦
          let P : List ℕ → Type 0 = λ x. IsRead names (codes "n") (x ∷ ws) step in
          subst P (sym (same_text-equal w (codes "num") p.0)) (number_made_read names ws step p.1)
      | inr p ↦ op_made_read names w ws step plain.0 p.1
    ]

-- the line of a step
record IsLine (names : List (List ℕ)) (words : List (List ℕ)) (step : Step) : Type 0 where
  texts : words ≡ letter step ∷ arguments names step
  has : HasLine names step

of_letter : (names : List (List ℕ)) (b mark : ℕ) (words : List (List ℕ)) (step : Step) (found other : Option Step) → (found ≡ Some step → IsRead names (mark ∷ []) words step) → (other ≡ Some step → IsLine names ((b ∷ []) ∷ words) step)
    → cond (nat_eq b mark) found other ≡ Some step → IsLine names ((b ∷ []) ∷ words) step
of_letter names b mark words step found other read go e =
    elim (choice (nat_eq b mark) found other (Some step) e) [
      | inl p ↦
          let r = read p.1 in
          let is : b ≡ mark = eqb-true b mark p.0 in
          record { texts = ap (λ x. (x ∷ []) ∷ words) is ∙ ap (λ x. x ∷ words) (sym r.same) ∙ ap (λ ws. letter step ∷ ws) r.texts; has = r.has }
      | inr p ↦ go p.1
    ]

letter_read : (names : List (List ℕ)) (b : ℕ) (words : List (List ℕ)) (step : Step) → AllByRecursion IsWord words → by_letter names b words ≡ Some step → IsLine names ((b ∷ []) ∷ words) step
letter_read names b words step plain e =
    of_letter names b 104 words step _ _ (hypothesis_read names words step)
    (of_letter names b 103 words step _ _ (goal_read names words step)
    (of_letter names b 120 words step _ _ (connective_read names words step)
    (of_letter names b 97 words step _ _ (schema_read names words step)
    (of_letter names b 117 words step _ _ (propagation_read names words step)
    (of_letter names b 101 words step _ _ (congruence_read names words step)
    (of_letter names b 108 words step _ _ (linear_read names words step)
    (of_letter names b 115 words step _ _ (split_read names words step)
    (of_letter names b 110 words step _ _ (make_read names words step plain)
    (λ n. absurd cc))))))))) e

words_read : (names : List (List ℕ)) (words : List (List ℕ)) (step : Step) → AllByRecursion IsWord words → step_of_words names words ≡ Some step → IsLine names words step
words_read names [] step plain e = absurd cc
words_read names ([] ∷ ws) step plain e = absurd cc
words_read names ((b ∷ []) ∷ ws) step plain e = letter_read names b ws step plain.1 e
words_read names ((b ∷ c ∷ bs) ∷ ws) step plain e = absurd cc

-- the words between blanks, of a line
word_ends : (before bs : List ℕ) (b : ℕ) (same : Bool) → nat_eq b 32 ≡ same → b ≢ 10 → IsWord before → AllByRecursion IsWord (parted_from 32 [] bs) → (IsWord (before ++ b ∷ []) → AllByRecursion IsWord (parted_from 32 (before ++ b ∷ []) bs)) → AllByRecursion IsWord (parted_from 32 before (b ∷ bs))
word_ends before bs b true e within plain ends goes =
    let P : Bool → Type 0 = λ s. AllByRecursion IsWord (cond s (before ∷ parted_from 32 [] bs) (parted_from 32 (before ++ b ∷ []) bs)) in
    subst P (sym e) (plain, ends)
word_ends before bs b false e within plain ends goes =
    let P : Bool → Type 0 = λ s. AllByRecursion IsWord (cond s (before ∷ parted_from 32 [] bs) (parted_from 32 (before ++ b ∷ []) bs)) in
    let apart : b ≢ 32 = grind (arith, e) in
    subst P (sym e) (goes (all_joined IsPlain before (b ∷ []) plain ((apart, within), tt)))

words_plain : (before text : List ℕ) → IsWord before → AreWithin text → AllByRecursion IsWord (parted_from 32 before text)
words_plain before [] plain within = (plain, tt)
words_plain before (b ∷ bs) plain within = word_ends before bs b (nat_eq b 32) refl within.0 plain (words_plain [] bs tt within.1) (λ p. words_plain (before ++ b ∷ []) bs p within.1)

pub line_read : (names : List (List ℕ)) (line : List ℕ) (step : Step) → AreWithin line → read_step names line ≡ Some step → (line ≡ step_line names step) × HasLine names step
line_read names line step within e =
    let r = words_read names (parted 32 line) step (words_plain [] line tt within) e in
    (parts_join 32 line (letter step ∷ arguments names step) r.texts, r.has)
