-- The greatest numbers that a command may name.
use Rattle.std.specs.Prelude.{ℕ}

-- branches that may be closed
abbrev pub step_limit : ℕ
step_limit = 10000000

-- rounds of instances
abbrev pub round_limit : ℕ
round_limit = 8

-- steps of the machine
abbrev pub fuel_limit : ℕ
fuel_limit = 9223372036854775807

-- seeds of a generated source
abbrev pub seed_limit : ℕ
seed_limit = 9223372036854775807

-- methods of a generated source
abbrev pub method_limit : ℕ
method_limit = 200
