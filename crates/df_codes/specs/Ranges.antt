-- Ranges of numbers.
use Rattle.std.specs.Prelude.{pos, negsuc}
use Rattle.df_nmach.specs.declared.instruction.Range.{Range}

abbrev pub digit : Range
digit = record { low = negsuc 8; high = pos 9 }

-- all numbers of 128 bits
abbrev pub all : Range
all = record { low = negsuc 170141183460469231731687303715884105727; high = pos 170141183460469231731687303715884105727 }

-- the numbers of 32 bits
abbrev pub bits : Range
bits = record { low = negsuc 2147483647; high = pos 2147483647 }
