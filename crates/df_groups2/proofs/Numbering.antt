-- Groups as numbers.
use Rattle.std.proofs.Common.{◌≡◌, ℕ, zero, suc, ◌<◌, ◌≤◌, ◌⊎◌, inl, inr, List, [], ◌∷◌, map, get_or, Contains, Option, None, Some, refl, sym, ap, ◌∙◌}
use Rattle.std.specs.Option.{unwrap_or}
use Rattle.std.proofs.lemmas.List.{length-map}
use Rattle.df_lemmas.proofs.Alls.{none_there}
use Rattle.df_groups2.specs.Graph.{Path}
use Rattle.df_groups2.specs.Filling.{group_in}
use Rattle.df_groups2.specs.Grouping.{IsGrouping, AreComponents}
use Rattle.df_groups2.proofs.Fillings.{group_cases}

number_at : (groups : List (Option ℕ)) (v : ℕ) → get_or (map (λ (group : Option ℕ). unwrap_or group 0) groups) v 0 ≡ unwrap_or (group_in groups v) 0
number_at [] v = refl
number_at (x ∷ xs) zero = refl
number_at (x ∷ xs) (suc v) = number_at xs v

module _ (targets back : ℕ → List ℕ) (vertices count : ℕ) (groups : List (Option ℕ)) (s : IsGrouping targets back vertices [] count groups) where
  -- each vertex has a group, of this number
  grouped : (v : ℕ) → (k : ℕ) × (group_in groups v ≡ Some k) × (get_or (map (λ (group : Option ℕ). unwrap_or group 0) groups) v 0 ≡ k)
  grouped v = either (group_cases groups v)
    where
      either : (group_in groups v ≡ None) ⊎ ((k : ℕ) × (group_in groups v ≡ Some k)) → (k : ℕ) × (group_in groups v ≡ Some k) × (get_or (map (λ (group : Option ℕ). unwrap_or group 0) groups) v 0 ≡ k)
      either (inl none) = absurd (none_there v (s.awaited v none))
      either (inr h) = (h.0, h.1, number_at groups v ∙ ap (λ (o : Option ℕ). unwrap_or o 0) h.1)

  ordered : (a b : ℕ) → a < vertices → Contains (targets a) b → get_or (map (λ (group : Option ℕ). unwrap_or group 0) groups) b 0 ≤ get_or (map (λ (group : Option ℕ). unwrap_or group 0) groups) a 0
  ordered a b lt c =
      let one = grouped a in
      let other = grouped b in
      rw (one.2, other.2) (s.ordered a b one.0 other.0 lt one.1 c other.1)

  apart : (a b : ℕ) → a < vertices → b < vertices → get_or (map (λ (group : Option ℕ). unwrap_or group 0) groups) a 0 ≡ get_or (map (λ (group : Option ℕ). unwrap_or group 0) groups) b 0 → Path targets a b
  apart a b la lb e =
      let one = grouped a in
      let other = grouped b in
      s.apart a b one.0 la lb one.1 (other.1 ∙ ap (λ (k : ℕ). Some k) (sym other.2 ∙ sym e ∙ one.2))

  pub numbers_are_components : AreComponents targets vertices (map (λ (group : Option ℕ). unwrap_or group 0) groups)
  numbers_are_components = record {
    each = length-map groups (λ (group : Option ℕ). unwrap_or group 0) ∙ s.each;
    ordered = ordered;
    apart = apart;
  }
