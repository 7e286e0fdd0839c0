-- Kinds of values, and the code's kinds without the proof that the ends of an interval are in order.
use Rattle.std.specs.Prelude.{ℤ}
use Rattle.df_nplain.specs.declared.kind.Range as declared_range
use Rattle.df_nplain.specs.declared.kind.Range.TheVariants as declared_ranges
use Rattle.df_nplain.specs.declared.kind.Kind as declared
use Rattle.df_nplain.specs.declared.kind.Kind.TheVariants as declared_kinds

-- which numbers there may be: low <= number <= high, or all
pub data Range : Type 0 where
  Between : (low high : ℤ) → Range
  Unbounded : Range

pub data Kind : Type 0 where
  Number : Range → Kind
  Truth : Kind
  Character : Kind

abbrev pub range_of : declared_range.Range → Range
range_of (declared_ranges.Between interval) = Between interval.low interval.high
range_of declared_ranges.Unbounded = Unbounded

abbrev pub kind_of : declared.Kind → Kind
kind_of (declared_kinds.Number range) = Number (range_of range)
kind_of declared_kinds.Truth = Truth
kind_of declared_kinds.Character = Character
