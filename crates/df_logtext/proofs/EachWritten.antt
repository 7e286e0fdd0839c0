-- What is written of each of a list, one after another.
use Rattle.std.proofs.Common.{◌≡◌, ℕ, ◌+◌, ◌<◌, List, [], ◌∷◌, ◌++◌, map, length, take, get_or, sym, ap, subst, ◌∙◌, append_assoc}
use Rattle.std.specs.List.{flat_map, AllByRecursion}
use Rattle.std.proofs.lemmas.Grind.{flat_map-append}
use Rattle.std.proofs.lemmas.List.{append-nil, take_more, map-append}
use Rattle.df_lemmas.proofs.Alls.{all_joined}
use Rattle.df_logtext.specs.Joined.{behind}
use Rattle.df_logtext.specs.LogText.{text_of_lines, ended}
use Rattle.df_logtext.specs.Writes.{Writes}

module _ {X V : Type 0} (view : X → V) (has : V → Type 0) (xs : List X) (n : ℕ) (x : X) (inside : n < length xs) (here : x ≡ get_or xs n x) where
  views_more : map view (take (n + 1) xs) ≡ map view (take n xs) ++ view x ∷ []
  views_more = ap (map view) (take_more xs n x inside ∙ ap (λ (y : X). take n xs ++ y ∷ []) (sym here)) ∙ map-append view (take n xs) (x ∷ [])

  all_have : AllByRecursion has (map view (take n xs)) → has (view x) → AllByRecursion has (map view (take (n + 1) xs))
  all_have before one = subst (AllByRecursion has) (sym views_more) (all_joined has (map view (take n xs)) (view x ∷ []) before (one, tt))

  module _ (old middle new : List ℕ) where
    -- several words of each
    pub words_more : (words : V → List (List ℕ)) (separator : ℕ) → Writes old middle (behind separator (flat_map words (map view (take n xs)))) (AllByRecursion has (map view (take n xs)))
        → Writes middle new (behind separator (words (view x))) (has (view x)) → Writes old new (behind separator (flat_map words (map view (take (n + 1) xs)))) (AllByRecursion has (map view (take (n + 1) xs)))
    words_more words separator before one =
        let all = flat_map words (map view (take n xs)) in
        let texts : flat_map words (map view (take (n + 1) xs)) ≡ all ++ (words (view x) ++ []) = ap (flat_map words) views_more ∙ flat_map-append words (map view (take n xs)) (view x ∷ []) in
        let text : behind separator (flat_map words (map view (take (n + 1) xs))) ≡ behind separator all ++ behind separator (words (view x)) =
        ap (behind separator) (texts ∙ ap (λ (ws : List (List ℕ)). all ++ ws) (append-nil (words (view x)))) ∙ flat_map-append (λ (word : List ℕ). separator ∷ word) all (words (view x)) in
        record {
          text = one.text ∙ ap (λ (t : List ℕ). t ++ behind separator (words (view x))) before.text ∙ append_assoc old (behind separator all) (behind separator (words (view x))) ∙ ap (λ (t : List ℕ). old ++ t) (sym text);
          fits = all_have before.fits one.fits;
        }

    -- a line of each
    pub line_more : (line : V → List ℕ) → Writes old middle (text_of_lines (map line (map view (take n xs)))) (AllByRecursion has (map view (take n xs)))
        → Writes middle new (ended (line (view x))) (has (view x)) → Writes old new (text_of_lines (map line (map view (take (n + 1) xs)))) (AllByRecursion has (map view (take (n + 1) xs)))
    line_more line before one =
        let all = map line (map view (take n xs)) in
        let lines : map line (map view (take (n + 1) xs)) ≡ all ++ line (view x) ∷ [] = ap (map line) views_more ∙ map-append line (map view (take n xs)) (view x ∷ []) in
        let text : text_of_lines (map line (map view (take (n + 1) xs))) ≡ text_of_lines all ++ ended (line (view x)) =
        ap text_of_lines lines ∙ flat_map-append ended all (line (view x) ∷ []) ∙ ap (λ (t : List ℕ). text_of_lines all ++ t) (append-nil (ended (line (view x)))) in
        record {
          text = one.text ∙ ap (λ (t : List ℕ). t ++ ended (line (view x))) before.text ∙ append_assoc old (text_of_lines all) (ended (line (view x))) ∙ ap (λ (t : List ℕ). old ++ t) (sym text);
          fits = all_have before.fits one.fits;
        }
