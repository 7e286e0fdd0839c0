-- The number of a range that is nearest 0.
use Rattle.std.proofs.Common.{◌≡◌, ◌⊎◌, ⊎_elim, inl, inr, ◌≤◌, ℤ, pos, negsuc, ◌+ℤ◌, ◌<ℤ◌, ◌≤ℤ◌, Some, arith}
use Rattle.std.proofs.lemmas.Int.{ints}
use Rattle.std.specs.Int.RustNames.{unsigned_abs}
use Rattle.df_back.specs.Ranges.{IsGreaterOf, IsLesserOf, IsNearestIn}

nearer_above : (v w : ℤ) → pos 0 ≤ℤ v → v ≤ℤ w → unsigned_abs v ≤ unsigned_abs w
nearer_above (pos v) (pos w) h le = omega (arith, ints)
nearer_above (pos v) (negsuc w) h le = absurd (omega (arith, ints))
nearer_above (negsuc v) w h le = absurd (omega (arith, ints))

nearer_below : (v w : ℤ) → v ≤ℤ pos 0 → w ≤ℤ v → unsigned_abs v ≤ unsigned_abs w
nearer_below (pos v) (pos w) h le = omega (arith, ints)
nearer_below (pos v) (negsuc w) h le = omega (arith, ints)
nearer_below (negsuc v) (pos w) h le = absurd (omega (arith, ints))
nearer_below (negsuc v) (negsuc w) h le = omega (arith, ints)

module _ (low high m v : ℤ) (le : low ≤ℤ high) (lesser : IsLesserOf high (pos 0) m) (greater : IsGreaterOf low m v) where
  inside : v ≤ℤ high
  inside = ⊎_elim (λ e. omega (arith, ints)) (λ e. let h = lesser.first in omega (arith, ints)) greater.either

  nearest : (w : ℤ) → low ≤ℤ w → w ≤ℤ high → unsigned_abs v ≤ unsigned_abs w
  nearest w from to = ⊎_elim at_low at_other greater.either
    where
      at_m : v ≡ m → (m ≡ high) ⊎ (m ≡ pos 0) → unsigned_abs v ≤ unsigned_abs w
      at_m e (inl is) = nearer_below v w (let h = lesser.second in omega (arith, ints)) (omega (arith, ints))
      at_m e (inr is) = zero_nearest v (omega (arith, ints))
        where
          zero_nearest : (v : ℤ) → v ≡ pos 0 → unsigned_abs v ≤ unsigned_abs w
          zero_nearest (pos v) e = omega (arith, ints)
          zero_nearest (negsuc v) e = absurd (omega (arith, ints))

      at_other : v ≡ m → unsigned_abs v ≤ unsigned_abs w
      at_other e = at_m e lesser.either

      at_low : v ≡ low → unsigned_abs v ≤ unsigned_abs w
      at_low e = ⊎_elim (λ h. nearer_above v w h (omega (arith, ints))) (λ h. at_other (omega (arith, ints, lesser.second, greater.second, by_low h lesser.either))) (sides v)
        where
          sides : (v : ℤ) → (pos 0 ≤ℤ v) ⊎ (v <ℤ pos 0)
          sides v = grind (arith, ints)

          by_low : v <ℤ pos 0 → (m ≡ high) ⊎ (m ≡ pos 0) → m ≤ℤ v
          by_low h x = greater.second

  pub nearest_between : IsNearestIn (record { low = Some low; high = Some high }) v
  nearest_between = record { inside = record { low = greater.first; high = inside }; nearest = λ w h. nearest w h.low h.high }

-- the number after a lower one
pub next_number : (k low : ℤ) → k <ℤ low → (k +ℤ pos 1) ≤ℤ low
next_number k low h = omega (arith, ints)
