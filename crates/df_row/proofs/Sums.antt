-- Sums below a number, term by term.
use Rattle.std.proofs.Common.{◌≡◌, ℕ, zero, suc, ◌<◌, ℤ, pos, ◌+ℤ◌, ◌*ℤ◌, refl, subst, arith}
use Rattle.std.proofs.lemmas.Int.{ints}
use Rattle.df_lemmas.proofs.Integers.{sum_times, times_twice, regroup_scaled}
use Rattle.df_row.specs.Value.{sum_below}

pub same_sums : (count : ℕ) (f g : ℕ → ℤ) → ((n : ℕ) → n < count → f n ≡ g n) → sum_below count f ≡ sum_below count g
same_sums zero f g h = refl
same_sums (suc n) f g h = let first = h n (omega arith) in let rest = same_sums n f g (λ m lt. h m (omega arith)) in cc

pub no_sum : (count : ℕ) (f : ℕ → ℤ) → ((n : ℕ) → n < count → f n ≡ pos 0) → sum_below count f ≡ pos 0
no_sum zero f h = refl
no_sum (suc n) f h = let first = h n (omega arith) in let rest = no_sum n f (λ m lt. h m (omega arith)) in omega (arith, ints)

-- a sum whose coefficients are multiples
pub sum_scaled : (count : ℕ) (f g v : ℕ → ℤ) (d : ℤ) → ((n : ℕ) → n < count → d *ℤ g n ≡ f n) → sum_below count (λ n. f n *ℤ v n) ≡ d *ℤ sum_below count (λ n. g n *ℤ v n)
sum_scaled zero f g v d h = omega (arith, ints)
sum_scaled (suc n) f g v d h = next (f n) (g n) (v n) (sum_below n (λ m. f m *ℤ v m)) (sum_below n (λ m. g m *ℤ v m)) (h n (omega arith)) (sum_scaled n f g v d (λ m lt. h m (omega arith)))
  where
    next : (x y w s t : ℤ) → d *ℤ y ≡ x → s ≡ d *ℤ t → (x *ℤ w) +ℤ s ≡ d *ℤ ((y *ℤ w) +ℤ t)
    next x y w s t e h = subst (λ (x : ℤ). (x *ℤ w) +ℤ s ≡ d *ℤ ((y *ℤ w) +ℤ t)) e (regroup_scaled ((d *ℤ y) *ℤ w) (d *ℤ (y *ℤ w)) (d *ℤ ((y *ℤ w) +ℤ t)) (d *ℤ t) s (times_twice d y w) (sum_times d (y *ℤ w) t) h)
