-- The text of generated sources, and the numbers of a seed in it. Each line ends with a line feed.
use Rattle.std.specs.Prelude.{ℕ, zero, suc, List, [], ◌++◌, codes, ◌+◌, ◌*◌, ◌/◌, ◌%◌, ◌^◌}
use Rattle.std.specs.Fmt.{decimal}

-- the lines of the numbers below this one, in their order
abbrev pub lines_below : (ℕ → List ℕ) → ℕ → List ℕ
lines_below line zero = []
lines_below line (suc k) = lines_below line k ++ line k

-- a number in decimal, and what follows it
abbrev pub numbered : ℕ → List ℕ → List ℕ
numbered number after = decimal number ++ after

-- the method of a number, up to the factor in its postcondition
abbrev pub method_head : ℕ → List ℕ
method_head number = codes "method m" ++ numbered number (codes "(n: u) returns (r: u) requires n < 1000 ensures r == n * ")

-- the numbers are a linear congruential generator's of 64 bits: the state after a state
abbrev pub next : ℕ → ℕ
next state = (state * 6364136223846793005 + 1442695040888963407) % 2 ^ 64

-- the state after so many, from the seed
abbrev pub state_after : ℕ → ℕ → ℕ
state_after seed zero = seed
state_after seed (suc k) = next (state_after seed k)

-- the high bits of a state, below 100
abbrev pub factor_of : ℕ → ℕ
factor_of state = state / 2 ^ 33 % 100

-- the factor of the method of this number, from 0
abbrev pub factor : ℕ → ℕ → ℕ
factor seed k = factor_of (state_after seed (suc k))

-- the rest of the method, from the factor on
abbrev pub method_body : ℕ → List ℕ
method_body factor =
    numbered factor (codes " { r := 0; var i: u := 0; while i < n invariant i <= n && r == i * ") ++ numbered factor (codes " { r := r + ") ++ numbered factor (codes "; i := i + 1; } }\n")

-- the method of a number, which multiplies by the factor
abbrev pub method_text : ℕ → ℕ → List ℕ
method_text number factor = method_head number ++ method_body factor

-- the call of that method
abbrev pub call_text : ℕ → List ℕ
call_text number = codes "a := m" ++ decimal number ++ codes "(10); t := t + a;\n"

-- the whole, for a seed and a count of methods
abbrev pub generated_source : (seed count : ℕ) → List ℕ
generated_source seed count = codes "newtype u = x: int | 0 <= x < 1000000000\n" ++ lines_below (λ k. method_text k (factor seed k)) count
    ++ codes "method Main() { var t: u := 0; var a: u := 0;\n" ++ lines_below call_text count ++ codes "print t, \"\\n\"; }\n"
