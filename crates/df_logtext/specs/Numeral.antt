-- Numbers in canonical decimal, as they are read.
use Rattle.std.specs.Prelude.{ℕ, zero, suc, ℤ, pos, negsuc, ◌+◌, ◌*◌, ◌-◌, ◌^◌, Bool, ◌==◌, ◌&&◌, nat_lt, nat_le, List, [], ◌∷◌, Option, None, Some, if◌then◌else◌}
use Rattle.std.specs.Option.{option_map, option_and_then}

-- the digits are 48 to 57
abbrev pub is_digit : ℕ → Bool
is_digit b = nat_le 48 b && nat_le b 57

-- the number of digits behind those of a value, where it is below the limit
abbrev pub digits_after : ℕ → ℕ → List ℕ → Option ℕ
digits_after limit value [] = Some value
digits_after limit value (b ∷ bs) = if is_digit b && nat_lt (value * 10 + (b - 48)) limit then digits_after limit (value * 10 + (b - 48)) bs else None

-- only 0 begins with that digit
abbrev pub zero_of : List ℕ → Option ℕ
zero_of [] = Some 0
zero_of (b ∷ bs) = None

-- a number from 0 on, below the limit
unfoldable pub number_of : ℕ → List ℕ → Option ℕ
number_of limit [] = None
number_of limit (b ∷ bs) = if b == 48 then zero_of bs else digits_after limit 0 (b ∷ bs)

-- there is no negative 0
abbrev pub negative_of : ℕ → Option ℤ
negative_of zero = None
negative_of (suc n) = Some (negsuc n)

-- a whole number of 128 bits; 45 is `-`
unfoldable pub integer_of : List ℕ → Option ℤ
integer_of [] = None
integer_of (b ∷ bs) = if b == 45 then option_and_then negative_of (number_of (2 ^ 127 + 1) bs) else option_map (λ n. pos n) (number_of (2 ^ 127) (b ∷ bs))
