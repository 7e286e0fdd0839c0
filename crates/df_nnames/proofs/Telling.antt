-- The first fault of a list, part by part.
use Rattle.std.proofs.Common.{◌≡◌, ℕ, ◌+◌, ◌<◌, ◌≤◌, List, [], ◌∷◌, ◌++◌, map, length, get_or, drop, Result, sym, ap, subst, ◌∙◌, append_assoc}
use Rattle.std.specs.List.{flat_map}
use Rattle.std.proofs.lemmas.List.{drop_all, drop_more}
use Rattle.df_base.specs.declared.refusal.Refusal.{Refusal}
use Rattle.df_base.specs.declared.refusal.Stop.{Stop}
use Rattle.df_base.specs.declared.refusal.Stop.TheVariants as stops
use Rattle.df_nnames.specs.Telling.{IsTold, Tells}

pub told_left : (stop : Stop) (a b : List Refusal) → IsTold stop a → IsTold stop (a ++ b)
told_left stops.Memory a b h = tt
told_left (stops.Refused refusal) [] b h = absurd h
told_left (stops.Refused refusal) (x ∷ a) b h = h

pub told_right : (stop : Stop) (a b : List Refusal) → a ≡ [] → IsTold stop b → IsTold stop (a ++ b)
told_right stop a b none h = rw none h

pub tells_right : {A : Type 0} (r : Result A Stop) (a b : List Refusal) → a ≡ [] → Tells r b → Tells r (a ++ b)
tells_right r a b none h = rw none h

pub none_of : (a b : List Refusal) → a ≡ [] → b ≡ [] → a ++ b ≡ []
none_of a b e h = rw e h

-- A walk along a list, with a state: what is told of the rest is told of all.
module _ {S A : Type 0} (all : S → List A → List Refusal) (each : S → A → List Refusal) (after : S → A → S)
    (one : (s : S) (x : A) (xs : List A) → all s (x ∷ xs) ≡ each s x ++ all (after s x) xs) (none : (s : S) → all s [] ≡ []) (items : List A) (total : List Refusal) where
  here : (i : ℕ) (s : S) (x : A) → i < length items → x ≡ get_or items i x → all s (drop i items) ≡ each s x ++ all (after s x) (drop (i + 1) items)
  here i s x lt is = rw (drop_more items i x lt, ← is) (one s x (drop (i + 1) items))

  pub goes_on : (i : ℕ) (s next : S) (x : A) → i < length items → x ≡ get_or items i x → each s x ≡ [] → next ≡ after s x → all s (drop i items) ≡ total → all next (drop (i + 1) items) ≡ total
  goes_on i s next x lt is clear steps so_far = rw steps (ap (λ (faults : List Refusal). faults ++ all (after s x) (drop (i + 1) items)) (sym clear) ∙ sym (here i s x lt is) ∙ so_far)

  pub stops_at : (stop : Stop) (i : ℕ) (s : S) (x : A) → i < length items → x ≡ get_or items i x → IsTold stop (each s x) → all s (drop i items) ≡ total → IsTold stop total
  stops_at stop i s x lt is told so_far = subst (IsTold stop) (sym (here i s x lt is) ∙ so_far) (told_left stop (each s x) (all (after s x) (drop (i + 1) items)) told)

  pub is_done : (i : ℕ) (s : S) → length items ≤ i → all s (drop i items) ≡ total → total ≡ []
  is_done i s le so_far = sym so_far ∙ ap (all s) (drop_all i items le) ∙ none s

-- A walk along a list without a state.
module _ {A B : Type 0} (faults : B → List Refusal) (view : A → B) (items : List A) (i : ℕ) (x : A) (total : List Refusal) (lt : i < length items) (is : x ≡ get_or items i x)
    (so_far : flat_map faults (map view (drop i items)) ≡ total) where
  row_here : flat_map faults (map view (drop i items)) ≡ faults (view x) ++ flat_map faults (map view (drop (i + 1) items))
  row_here = ap (λ (l : List A). flat_map faults (map view l)) (drop_more items i x lt ∙ ap (λ y. y ∷ drop (i + 1) items) (sym is))

  pub row_goes_on : faults (view x) ≡ [] → flat_map faults (map view (drop (i + 1) items)) ≡ total
  row_goes_on clear = ap (λ (l : List Refusal). l ++ flat_map faults (map view (drop (i + 1) items))) (sym clear) ∙ sym row_here ∙ so_far

  pub row_stops_at : (stop : Stop) → IsTold stop (faults (view x)) → IsTold stop total
  row_stops_at stop told = subst (IsTold stop) (sym row_here ∙ so_far) (told_left stop (faults (view x)) (flat_map faults (map view (drop (i + 1) items))) told)

-- what is told of two parts is told where more follows the second
pub told_both : (stop : Stop) (a b c : List Refusal) → IsTold stop (a ++ b) → IsTold stop (a ++ (b ++ c))
told_both stop a b c h = subst (IsTold stop) (append_assoc a b c) (told_left stop (a ++ b) c h)

pub told_third : (stop : Stop) (a b c d : List Refusal) → a ++ b ≡ [] → IsTold stop c → IsTold stop (a ++ (b ++ (c ++ d)))
told_third stop a b c d none h = subst (IsTold stop) (append_assoc a b (c ++ d)) (told_right stop (a ++ b) (c ++ d) none (told_left stop c d h))

pub tells_last : {A : Type 0} (r : Result A Stop) (a b c d : List Refusal) → a ++ b ≡ [] → c ≡ [] → Tells r d → Tells r (a ++ (b ++ (c ++ d)))
tells_last r a b c d none also h = subst (Tells r) (append_assoc a b (c ++ d)) (tells_right r (a ++ b) (c ++ d) none (tells_right r c d also h))
