-- Whether a formula is known, and at which place, stands at its number.
use Rattle.df_nowed.proofs.Words.{◌≡◌, ◌⊎◌, inl, inr, ℕ, zero, suc, false, replicate, refl, ◌<◌, ◌==◌, Bool, ◌||◌, List, [], ◌∷◌, ◌++◌, length, slice_get, slice_set, slice_index_or, Option, None, Some, sym, ap, ◌∙◌, arith, subst, AllByRecursion, eq-eqb, ne_eqb, get_or-set_same, get_or-set_other, length-set, same_Some, is_or_not, is_among, ArePlaces}
use Rattle.std.specs.Prelude.{is_some}
use Rattle.std.proofs.lemmas.List.Folds.{list_any-append}
use Rattle.std.proofs.Math.Bool.{or-false, or-true}
use Rattle.df_lemmas.proofs.Alls.{all_joined}
use Rattle.df_lemmas.proofs.Lists.{get_grown, get_last}
use Rattle.df_nowed.proofs.Stacks.{get_set_same, get_set_other, none_there}

module _ (places : List (Option ℕ)) (known : List ℕ) (n : ℕ) (are : ArePlaces places known) (less : n < length places) where
  abbrev place : Option ℕ
  place = Some (length known)

  among_more : (k : ℕ) → is_among (known ++ n ∷ []) k ≡ (is_among known k || (n == k))
  among_more k = list_any-append (λ m. m == k) known (n ∷ []) ∙ ap (λ (b : Bool). is_among known k || b) (or-false (n == k))

  here : (k : ℕ) → k ≡ n → is_some (slice_index_or (slice_set places n place) k None) ≡ is_among (known ++ n ∷ []) k
  here k e =
      ap (λ (m : ℕ). is_some (slice_index_or (slice_set places n place) m None)) e
      ∙ ap (λ (p : Option ℕ). is_some p) (get_or-set_same places n place None less)
      ∙ sym (among_more k ∙ ap (λ (b : Bool). is_among known k || b) (eq-eqb n k (sym e)) ∙ or-true (is_among known k))

  elsewhere : (k : ℕ) → k < length places → (k ≡ n → ⊥) → is_some (slice_index_or (slice_set places n place) k None) ≡ is_among (known ++ n ∷ []) k
  elsewhere k inside h =
      ap (λ (p : Option ℕ). is_some p) (get_or-set_other places n k place None h)
      ∙ are.at k inside
      ∙ sym (among_more k ∙ ap (λ (b : Bool). is_among known k || b) (ne_eqb n k (λ e. h (sym e))) ∙ or-false (is_among known k))

  at_place : (k : ℕ) → k < length places → (k ≡ n) ⊎ (k ≡ n → ⊥) → is_some (slice_index_or (slice_set places n place) k None) ≡ is_among (known ++ n ∷ []) k
  at_place k inside (inl e) = here k e
  at_place k inside (inr h) = elsewhere k inside h

  found : (k p : ℕ) → slice_get (slice_set places n place) k ≡ Some (Some p) → (k ≡ n) ⊎ (k ≡ n → ⊥) → slice_get (known ++ n ∷ []) p ≡ Some k
  found k p at (inl e) =
      let now : slice_get (slice_set places n place) n ≡ Some (Some p) = ap (slice_get (slice_set places n place)) (sym e) ∙ at in
      let last : length known ≡ p = same_Some (length known) p (get_set_same places n place (Some p) now) in
      ap (slice_get (known ++ n ∷ [])) (sym last) ∙ get_last known n ∙ ap Some (sym e)
  found k p at (inr h) = get_grown known (n ∷ []) p k (are.place k p (get_set_other places n k place (Some p) h at))

  -- one more is
  pub place_added : ArePlaces (slice_set places n place) (known ++ n ∷ [])
  place_added =
      let long = length-set places n place in
      record {
        below = subst (λ (size : ℕ). AllByRecursion (λ m. m < size) (known ++ n ∷ [])) (sym long) (all_joined (λ m. m < length places) known (n ∷ []) are.below (less, tt));
        at = λ k inside. at_place k (omega (arith, long, inside)) (is_or_not k n);
        place = λ k p at. found k p at (is_or_not k n);
      }

abbrev unplaced : Option ℕ
unplaced = None

none_placed : (size k : ℕ) → is_some (slice_index_or (replicate size unplaced) k unplaced) ≡ false
none_placed zero k = refl
none_placed (suc size) zero = refl
none_placed (suc size) (suc k) = none_placed size k

-- of no formula there is none
pub nothing_placed : (size : ℕ) (places : List (Option ℕ)) (known : List ℕ) → places ≡ replicate size None → known ≡ [] → ArePlaces places known
nothing_placed size places known places_are known_are =
    let none : ArePlaces (replicate size None) [] = record { below = tt; at = λ n inside. none_placed size n; place = λ n p e. absurd (none_there size n p e) } in
    subst (λ (ps : List (Option ℕ)). ArePlaces ps known) (sym places_are) (subst (ArePlaces (replicate size None)) (sym known_are) none)
