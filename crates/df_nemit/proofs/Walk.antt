-- A walk along a list, with what is made so far.
use Rattle.std.proofs.Common.{◌≡◌, ℕ, ◌+◌, ◌<◌, ◌≤◌, List, [], ◌∷◌, length, drop, get_or, sym, ap, ◌∙◌}
use Rattle.std.proofs.lemmas.List.{drop_all, drop_more}

module _ {S A : Type 0} (run : S → List A → S) (step : S → A → S) (one : (s : S) (x : A) (xs : List A) → run s (x ∷ xs) ≡ run (step s x) xs) (none : (s : S) → run s [] ≡ s) (items : List A) (total : S) where
  pub goes_on : (i : ℕ) (s next : S) (x : A) → i < length items → x ≡ get_or items i x → next ≡ step s x → run s (drop i items) ≡ total → run next (drop (i + 1) items) ≡ total
  goes_on i s next x lt is steps so_far =
      ap (λ (y : S). run y (drop (i + 1) items)) steps
      ∙ sym (one s x (drop (i + 1) items))
      ∙ sym (ap (λ (l : List A). run s l) (drop_more items i x lt ∙ ap (λ (y : A). y ∷ drop (i + 1) items) (sym is)))
      ∙ so_far

  pub is_done : (i : ℕ) (s : S) → length items ≤ i → run s (drop i items) ≡ total → s ≡ total
  is_done i s le so_far = sym (none s) ∙ sym (ap (λ (l : List A). run s l) (drop_all i items le)) ∙ so_far
