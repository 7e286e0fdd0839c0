-- What is assigned where ways join.
use Rattle.std.proofs.Common.{◌≡◌, ℕ, Bool, true, false, ◌&&◌, refl, sym}
use mathlib.Core.Bool.{and_assoc}
use Rattle.df_lang.specs.Assignment.{Assigned, Unreached, Reached, has_value, join}

pub join_assoc : (a b c : Assigned) → join (join a b) c ≡ join a (join b c)
join_assoc Unreached b c = refl
join_assoc (Reached s) Unreached c = refl
join_assoc (Reached s) (Reached t) Unreached = refl
join_assoc (Reached s) (Reached t) (Reached u) = λ i. Reached (λ k. and_assoc (s k) (t k) (u k) i)

-- the other has a value where this has one
kept_there : (a b : Bool) → (a ≡ true → b ≡ true) → a ≡ (a && b)
kept_there true b h = sym (h refl)
kept_there false b h = refl

-- a way that takes no value away, if it is reached, leaves what was before it
pub join_kept : (before other : Assigned) → (before ≡ Unreached → other ≡ Unreached) → ((k : ℕ) → has_value before k ≡ true → has_value other k ≡ true) → before ≡ join before other
join_kept Unreached other none kept = sym (none refl)
join_kept (Reached s) Unreached none kept = refl
join_kept (Reached s) (Reached t) none kept = λ i. Reached (λ k. kept_there (s k) (t k) (kept k) i)
