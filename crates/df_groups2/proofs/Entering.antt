-- Which vertices were entered.
use Rattle.std.proofs.Common.{◌≡◌, ℕ, zero, suc, ◌<◌, ◌⊎◌, inl, inr, Bool, true, false, List, [], ◌∷◌, length, set, refl, ap, arith}
use Rattle.df_groups2.specs.Searching.{is_entered}

pub entered_now : (entered : List Bool) (v : ℕ) → is_entered (set entered v true) v ≡ true
entered_now [] v = refl
entered_now (x ∷ xs) zero = refl
entered_now (x ∷ xs) (suc v) = entered_now xs v

pub entered_stays : (entered : List Bool) (v w : ℕ) → is_entered entered w ≡ true → is_entered (set entered v true) w ≡ true
entered_stays [] v w e = refl
entered_stays (x ∷ xs) zero zero e = refl
entered_stays (x ∷ xs) zero (suc w) e = e
entered_stays (x ∷ xs) (suc v) zero e = e
entered_stays (x ∷ xs) (suc v) (suc w) e = entered_stays xs v w e

pub entered_only : (entered : List Bool) (v w : ℕ) → is_entered (set entered v true) w ≡ true → (v ≡ w) ⊎ (is_entered entered w ≡ true)
entered_only [] v w e = inr refl
entered_only (x ∷ xs) zero zero e = inl refl
entered_only (x ∷ xs) zero (suc w) e = inr e
entered_only (x ∷ xs) (suc v) zero e = inr e
entered_only (x ∷ xs) (suc v) (suc w) e = next (entered_only xs v w e)
  where
    next : (v ≡ w) ⊎ (is_entered xs w ≡ true) → (suc v ≡ suc w) ⊎ (is_entered xs w ≡ true)
    next (inl h) = inl (ap suc h)
    next (inr h) = inr h

pub not_entered_within : (entered : List Bool) (v : ℕ) → is_entered entered v ≡ false → v < length entered
not_entered_within [] v e = absurd cc
not_entered_within (x ∷ xs) zero e = omega arith
not_entered_within (x ∷ xs) (suc v) e = let lt = not_entered_within xs v e in omega arith
