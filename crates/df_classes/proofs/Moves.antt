-- Nodes that changes have moved.
use Rattle.std.proofs.Common.{◌≡◌, ℕ, zero, suc, ◌+◌, ◌<◌, ◌≤◌, ◌⊎◌, inl, inr, List, [], ◌∷◌, length, drop, get_or, Some, slice_get, refl, sym, ap, ◌∙◌, subst, arith}
use Rattle.std.proofs.lemmas.Bool.{cases_eq, cases_lt}
use Rattle.std.proofs.lemmas.Option.{slice_get_within}
use Rattle.std.proofs.lemmas.List.{get_or-set_same, get_or-set_other, set_past}
use Rattle.df_classes.specs.declared.partition.Change.{Change}
use Rattle.df_classes.specs.declared.partition.Change.TheVariants as changes
use Rattle.df_classes.specs.mirror.State.{State, label_of, undone, back}

-- one of the changes took the node from this label
pub record WasMoved (made : List Change) (n before : ℕ) : Type 0 where
  pub place : ℕ
  pub at : slice_get made place ≡ Some (changes.Moved n before)

moved_later : (c : Change) (made : List Change) (n before : ℕ) → WasMoved made n before → WasMoved (c ∷ made) n before
moved_later c made n before h = record { place = suc h.place; at = h.at }

-- a change that moves a node, behind those that lead to the state between
module _ (m b : ℕ) (made : List Change) (mid s : State) (n : ℕ) where
  abbrev was : State
  was = undone (changes.Moved m b) mid

  same : label_of was n ≡ label_of mid n → (label_of mid n ≡ label_of s n) ⊎ WasMoved made n (label_of mid n) → (label_of was n ≡ label_of s n) ⊎ WasMoved (changes.Moved m b ∷ made) n (label_of was n)
  same e (inl f) = inl (e ∙ f)
  same e (inr h) = inr (moved_later (changes.Moved m b) made n (label_of was n) (subst (WasMoved made n) (sym e) h))

  here : n ≡ m → m < length mid.labels → WasMoved (changes.Moved m b ∷ made) n (label_of was n)
  here e less =
      let is : label_of was n ≡ b = ap (label_of was) e ∙ get_or-set_same mid.labels m b m less in
      record { place = 0; at = λ i. Some (changes.Moved (sym e i) (sym is i)) }

  moved_before : (n ≡ m) ⊎ (n ≡ m → ⊥) → (m < length mid.labels) ⊎ (length mid.labels ≤ m) → (label_of mid n ≡ label_of s n) ⊎ WasMoved made n (label_of mid n) → (label_of was n ≡ label_of s n) ⊎ WasMoved (changes.Moved m b ∷ made) n (label_of was n)
  moved_before (inl e) (inl less) rest = inr (here e less)
  moved_before (inl e) (inr past) rest = same (ap (λ (ls : List ℕ). get_or ls n n) (set_past mid.labels m b past)) rest
  moved_before (inr apart) inside rest = same (get_or-set_other mid.labels m n b n apart) rest

entered_before : (bucket : ℕ) (made : List Change) (mid s : State) (n : ℕ) → (label_of mid n ≡ label_of s n) ⊎ WasMoved made n (label_of mid n) → (label_of mid n ≡ label_of s n) ⊎ WasMoved (changes.Entered bucket ∷ made) n (label_of mid n)
entered_before bucket made mid s n (inl e) = inl e
entered_before bucket made mid s n (inr h) = inr (moved_later (changes.Entered bucket) made n (label_of mid n) h)

-- A node has the label that it had, or the first change that moved it took it from there.
pub moved_or_not : (made : List Change) (s : State) (n : ℕ) → (label_of (back made s) n ≡ label_of s n) ⊎ WasMoved made n (label_of (back made s) n)
moved_or_not [] s n = inl refl
moved_or_not (changes.Entered bucket ∷ made) s n = entered_before bucket made (back made s) s n (moved_or_not made s n)
moved_or_not (changes.Moved m b ∷ made) s n = moved_before m b made (back made s) s n (cases_eq n m) (cases_lt m (length (back made s).labels)) (moved_or_not made s n)

-- ---- of a trail, from one change on

get_dropped : {A : Type 0} (xs : List A) (from k place : ℕ) → place ≡ from + k → slice_get (drop from xs) k ≡ slice_get xs place
get_dropped xs zero k place e = let same : place ≡ k = omega (arith, e) in ap (slice_get xs) (sym same)
get_dropped [] (suc from) k place e = refl
get_dropped (x ∷ xs) (suc from) k zero e = absurd (omega (arith, e))
get_dropped (x ∷ xs) (suc from) k (suc place) e = get_dropped xs from k place (omega (arith, e))

pub record MovedFrom (trail : List Change) (from n before : ℕ) : Type 0 where
  pub place : ℕ
  pub late : from ≤ place
  pub early : place < length trail
  pub at : slice_get trail place ≡ Some (changes.Moved n before)

pub moved_from : (trail : List Change) (from : ℕ) (now old : State) (n : ℕ) → back (drop from trail) now ≡ old → (label_of old n ≡ label_of now n) ⊎ MovedFrom trail from n (label_of old n)
moved_from trail from now old n e = by (moved_or_not (drop from trail) now n)
  where
    is : label_of (back (drop from trail) now) n ≡ label_of old n
    is = ap (λ (s : State). label_of s n) e

    there : (h : WasMoved (drop from trail) n (label_of (back (drop from trail) now) n)) → slice_get trail (from + h.place) ≡ Some (changes.Moved n (label_of old n))
    there h = sym (get_dropped trail from h.place (from + h.place) refl) ∙ h.at ∙ ap (λ (b : ℕ). Some (changes.Moved n b)) is

    by : (label_of (back (drop from trail) now) n ≡ label_of now n) ⊎ WasMoved (drop from trail) n (label_of (back (drop from trail) now) n) → (label_of old n ≡ label_of now n) ⊎ MovedFrom trail from n (label_of old n)
    by (inl f) = inl (sym is ∙ f)
    by (inr h) = inr (record {
      place = from + h.place;
      late = omega arith;
      early = slice_get_within trail (from + h.place) (changes.Moved n (label_of old n)) (there h);
      at = there h;
    })
