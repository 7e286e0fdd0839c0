-- Tests of natural numbers. Std has `eqb-true`, `eqb-false`, `ne_eqb`, `lt-ltb`, `ltb-true`, `le-leb`, `cases_lt`.
use Rattle.std.proofs.Common.{◌≡◌, ℕ, ◌<◌, true, false, nat_eq, refl, arith}
use Rattle.std.proofs.lemmas.Bool.{eq-eqb, ne_eqb}

pub equal_self : (n : ℕ) → nat_eq n n ≡ true
equal_self n = eq-eqb n n refl

pub less_unequal : (m n : ℕ) → m < n → nat_eq m n ≡ false
less_unequal m n lt = ne_eqb m n (λ e. omega (arith, e))

pub more_unequal : (m n : ℕ) → n < m → nat_eq m n ≡ false
more_unequal m n lt = ne_eqb m n (λ e. omega (arith, e))
