-- Entries of exact sums.
use Rattle.std.proofs.Common.{◌≡◌, ℕ, ◌<◌, pos, false, List, [], ◌∷◌, ◌++◌, rules, Option, Some, None, refl, sym, ap, arith}
use Rattle.std.proofs.lemmas.Map.Keys.{ge_from_not_lt}
use Rattle.std.specs.Ordering.{nat_cmp, is_lt}
use Rattle.std.specs.declared.cmp.Ordering.TheVariants.{Less}
use Rattle.std.specs.Cmp.{nat_cmp_is}
use Rattle.std.specs.Option.{IsSome, is_some, option_map_or}
use Rattle.std.specs.BTreeMap.{is_at}
use Rattle.std.specs.Map.{lookup}
use Rattle.std.specs.declared.ops.Bound.TheVariants.{Excluded, Unbounded}
use Rattle.std.specs.BTreeMap.{BTreeMap}
use Rattle.std.specs.BTreeMap.Range.{IsRangeOf}
use Rattle.df_integer.specs.declared.integer.Integer.{Integer}
use Rattle.df_integer.specs.Integer.{value}
use Rattle.df_row.specs.RowView.{IsLastBelow}
use Rattle.df_row.specs.ExpansionView.{number_at}

less_cmp : (a b : ℕ) → a < b → nat_cmp a b ≡ Less
less_cmp a b h = sym (nat_cmp_is a b Less h)

-- above the last key below a bound there is none
pub none_after : (entries : List (ℕ × Integer)) (last bound n : ℕ) → ((q : ℕ) → nat_cmp q bound ≡ Less → IsSome (lookup (is_at (nat_cmp q)) entries) → is_lt (nat_cmp last q) ≡ false) → last < n → n < bound → number_at entries n ≡ pos 0
none_after entries last bound n greatest low high = by (lookup (is_at (nat_cmp n)) entries) refl
  where
    by : (r : Option Integer) → lookup (is_at (nat_cmp n)) entries ≡ r → number_at entries n ≡ pos 0
    by None e = ap (λ r. option_map_or value r (pos 0)) e
    by (Some v) e =
        let at : IsSome (lookup (is_at (nat_cmp n)) entries) = ap is_some e in
        absurd (omega (arith, low, ge_from_not_lt last n (greatest n (less_cmp n bound high) at)))

from_less : (a b : ℕ) → nat_cmp a b ≡ Less → a < b
from_less a b e = search rules

-- the last entry of those below a bound
pub last_of : (m : BTreeMap ℕ Integer) (bound n : ℕ) (v : Integer) (r t : List (ℕ × Integer)) → IsRangeOf nat_cmp Unbounded (Excluded bound) m r → r ≡ t ++ (n, v) ∷ [] → IsLastBelow bound (record { coefficient = number_at m.entries; constant = pos 0 }) (Some n)
last_of m bound n v r t h e = (from_less n bound (h.3 (n, v) t e).0.1, λ k low high. none_after m.entries n bound k (λ q less at. h.4 (n, v) t e q (tt, less) at) low high)
