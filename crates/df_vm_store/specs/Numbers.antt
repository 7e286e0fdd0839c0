-- Numbers that lie in a range, and those that are places.
use Rattle.std.specs.Prelude.{ℕ, ℤ, int_le, ◌&&◌, cond, Option, Some, None}
use Rattle.df_mach2.specs.declared.op.Range.{Range}
use Rattle.df_mach2.specs.Value.{place_of, is_place, is_bound}

abbrev pub ranged : Range → ℤ → Option ℤ
ranged r n = cond (int_le r.low n && int_le n r.high) (Some n) None

abbrev pub ranged_if : Range → Option ℤ → Option ℤ
ranged_if r None = None
ranged_if r (Some n) = ranged r n

abbrev pub place_in : ℤ → ℕ → Option ℕ
place_in n count = cond (is_place n count) (Some (place_of n)) None

abbrev pub bound_in : ℤ → ℕ → Option ℕ
bound_in n count = cond (is_bound n count) (Some (place_of n)) None
