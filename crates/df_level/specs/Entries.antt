-- The entries of sparse rows.
use Rattle.std.specs.Prelude.{◌≡◌, ℕ, suc, ℤ, ◌*ℤ◌, pos, Bool, true, false, ◌&&◌, ◌==◌, nat_le, List, [], ◌∷◌, if◌then◌else◌}
use Rattle.std.specs.Ordering.{int_eq}
use Rattle.df_row.specs.Row.{fits}

-- the coefficient of a node among entries, 0 where it has none
abbrev pub coefficient_of : List (ℕ × ℤ) → ℕ → ℤ
coefficient_of [] n = pos 0
coefficient_of (e ∷ es) n = if n == e.0 then e.1 else coefficient_of es n

abbrev pub has_coefficient : ℤ → Bool
has_coefficient c = if int_eq c (pos 0) then false else true

-- The nodes ascend from at least the number, and none has coefficient 0.
abbrev pub ascends : ℕ → List (ℕ × ℤ) → Bool
ascends low [] = true
ascends low (e ∷ es) = nat_le low e.0 && (has_coefficient e.1 && ascends (suc e.0) es)

-- each coefficient has 128 bits
pub record AreNarrow (entries : List (ℕ × ℤ)) : Type 0 where
  pub each : (n : ℕ) → fits (coefficient_of entries n) ≡ true

-- and so many times each
pub record HaveMultiples (factor : ℤ) (entries : List (ℕ × ℤ)) : Type 0 where
  pub each : (n : ℕ) → fits (factor *ℤ coefficient_of entries n) ≡ true

-- or not
pub record LackMultiple (factor : ℤ) (entries : List (ℕ × ℤ)) : Type 0 where
  pub node : ℕ
  pub wide : fits (factor *ℤ coefficient_of entries node) ≡ false
