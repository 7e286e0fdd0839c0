-- The results of operators on the numbers that the code can hold.
use Rattle.std.specs.Prelude.{ℤ, Option, Some, None}
use Rattle.df_nmach.specs.declared.instruction.Range.{Range}
use Rattle.df_nmach.specs.Value.{Value}
use Rattle.df_nmach.specs.Step.{within}

-- the number, if there is one and it lies in the range
abbrev pub within_if : Range → Option ℤ → Option Value
within_if r None = None
within_if r (Some n) = within r n
