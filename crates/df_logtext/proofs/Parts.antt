-- Logs one after another.
use Rattle.std.proofs.Common.{◌≡◌, ℕ, suc, ◌+◌, ◌<◌, List, [], ◌∷◌, ◌++◌, map, length, take, get_or, sym, ap, subst, ◌∙◌, append_assoc, add-zero, arith}
use Rattle.std.specs.List.{AllByRecursion}
use Rattle.std.proofs.lemmas.Grind.{flat_map-append}
use Rattle.std.proofs.lemmas.List.{append-nil, take_more, length-take-le, map-append, length-map}
use Rattle.df_lemmas.proofs.Alls.{all_joined}
use Rattle.df_form.specs.Log.{Step}
use Rattle.df_logtext.specs.HasText.{HasNumbers, HaveNumbers}
use Rattle.df_logtext.specs.LogText.{ended, part_lines, parts_lines, text_of_lines}
use Rattle.df_logtext.specs.Writes.{Writes}

-- one more log
pub parts-more : (names : List (List ℕ)) (number : ℕ) (logs : List (List Step)) (log : List Step) → parts_lines names number (logs ++ log ∷ []) ≡ parts_lines names number logs ++ part_lines names (number + length logs) log
parts-more names number [] log = append-nil (part_lines names number log) ∙ ap (λ n. part_lines names n log) (sym (add-zero number))
parts-more names number (first ∷ others) log =
    let e : suc number + length others ≡ number + suc (length others) = omega arith in
    ap (λ lines. part_lines names number first ++ lines) (parts-more names (suc number) others log) ∙ sym (append_assoc (part_lines names number first) _ _)
    ∙ ap (λ n. (part_lines names number first ++ parts_lines names (suc number) others) ++ part_lines names n log) e

-- its text
pub parts_text_more : (names : List (List ℕ)) (number next : ℕ) (logs : List (List Step)) (log : List Step) → number + length logs ≡ next → text_of_lines (parts_lines names number (logs ++ log ∷ [])) ≡ text_of_lines (parts_lines names number logs) ++ text_of_lines (part_lines names next log)
parts_text_more names number next logs log e =
    ap text_of_lines (parts-more names number logs log) ∙ flat_map-append ended (parts_lines names number logs) _ ∙ ap (λ n. text_of_lines (parts_lines names number logs) ++ text_of_lines (part_lines names n log)) e

-- A loop over logs: behind the first ones one more is written.
module _ {X : Type 0} (names : List (List ℕ)) (view : X → List Step) (logs : List X) (n : ℕ) (x : X) (inside : n < length logs) (here : x ≡ get_or logs n x) where
  views_more : map view (take (n + 1) logs) ≡ map view (take n logs) ++ view x ∷ []
  views_more = ap (map view) (take_more logs n x inside ∙ ap (λ y. take n logs ++ y ∷ []) (sym here)) ∙ map-append view (take n logs) (x ∷ [])

  text_more : text_of_lines (parts_lines names 1 (map view (take (n + 1) logs))) ≡ text_of_lines (parts_lines names 1 (map view (take n logs))) ++ text_of_lines (part_lines names (n + 1) (view x))
  text_more =
      let next : 1 + length (map view (take n logs)) ≡ n + 1 = omega (arith, length-map (take n logs) view, length-take-le n logs (omega arith)) in
      ap (λ ls. text_of_lines (parts_lines names 1 ls)) views_more ∙ parts_text_more names 1 (n + 1) (map view (take n logs)) (view x) next

  pub part_more : (old middle new : List ℕ) → Writes old middle (text_of_lines (parts_lines names 1 (map view (take n logs)))) (HaveNumbers (map view (take n logs)))
      → Writes middle new (text_of_lines (part_lines names (n + 1) (view x))) (AllByRecursion HasNumbers (view x))
      → Writes old new (text_of_lines (parts_lines names 1 (map view (take (n + 1) logs)))) (HaveNumbers (map view (take (n + 1) logs)))
  part_more old middle new before part = record {
    text = part.text ∙ ap (λ text. text ++ text_of_lines (part_lines names (n + 1) (view x))) before.text ∙ append_assoc old _ _ ∙ ap (λ text. old ++ text) (sym text_more);
    fits = subst HaveNumbers (sym views_more) (all_joined (λ (log : List Step). AllByRecursion HasNumbers log) (map view (take n logs)) (view x ∷ []) before.fits (part.fits, tt));
  }
