-- The order by which recursion and loops end: lists of values, the first that differ decide.
use Rattle.std.specs.Prelude.{pos, Bool, true, false, not, ◌&&◌, ◌||◌, int_le, int_lt, nat_lt, List, [], ◌∷◌}
use Rattle.df_meaning.specs.Value.{Value, Truth, Character, Number, same_value}

-- the one value is below the other: numbers only below one from 0 on, `false` below `true`, characters by their codes
abbrev pub is_below : Value → Value → Bool
is_below (Truth a) (Truth b) = not a && b
is_below (Character a) (Character b) = nat_lt a b
is_below (Number a) (Number b) = int_lt a b && int_le (pos 0) b
is_below a b = false

-- The one list is below the other: at the first place where they differ; behind a shorter list stands a top
-- above every value.
abbrev pub are_below : List Value → List Value → Bool
are_below [] others = false
are_below (a ∷ more) [] = true
are_below (a ∷ more) (b ∷ others) = is_below a b || (same_value a b && are_below more others)
