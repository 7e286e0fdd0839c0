-- The order by which recursion and loops end.
use Rattle.std.specs.Prelude.{pos, Bool, true, false, not, ◌&&◌, ◌||◌, ◌==◌, int_le, int_lt, nat_lt, List, [], ◌∷◌, if◌then◌else◌}
use Rattle.df_types.specs.Measures.{is_parameter_type}
use Rattle.df_meaning2.specs.Value.{Value, NullReference, Truth, Character, Number, Reference, Made, Sequence, Collection, list_of, same, within, weight}
use Rattle.df_meaning2.specs.Meaning.{Measured}

-- Numbers below one from 0 on, `false` below `true`, characters by their codes, sets by proper subset, null below other references,
-- datatype values and sequences by weight.
abbrev pub is_below : Value → Value → Bool
is_below NullReference (Reference r) = true
is_below (Truth a) (Truth b) = not a && b
is_below (Character a) (Character b) = nat_lt a b
is_below (Number a) (Number b) = int_lt a b && int_le (pos 0) b
is_below (Made c vs) (Made d ws) = nat_lt (weight (Made c vs)) (weight (Made d ws))
is_below (Made c vs) (Sequence ws) = nat_lt (weight (Made c vs)) (weight (Sequence ws))
is_below (Sequence vs) (Made d ws) = nat_lt (weight (Sequence vs)) (weight (Made d ws))
is_below (Sequence vs) (Sequence ws) = nat_lt (weight (Sequence vs)) (weight (Sequence ws))
is_below (Collection vs) (Collection ws) = within (list_of vs) (list_of ws) && not (within (list_of ws) (list_of vs))
is_below v w = false

-- equal weights count as equal
abbrev pub counts_as : Value → Value → Bool
counts_as (Made c vs) (Made d ws) = weight (Made c vs) == weight (Made d ws)
counts_as (Made c vs) (Sequence ws) = weight (Made c vs) == weight (Sequence ws)
counts_as (Sequence vs) (Made d ws) = weight (Sequence vs) == weight (Made d ws)
counts_as (Sequence vs) (Sequence ws) = weight (Sequence vs) == weight (Sequence ws)
counts_as v w = same v w

-- values whose type is a type parameter are only equal or not
abbrev pub are_ranked : Measured → Measured → Bool
are_ranked a b = not (is_parameter_type a.ty) && not (is_parameter_type b.ty)

abbrev pub falls : Measured → Measured → Bool
falls a b = are_ranked a b && is_below a.value b.value

abbrev pub stays : Measured → Measured → Bool
stays a b = if are_ranked a b then counts_as a.value b.value else same a.value b.value

-- At the first place where they differ; behind a shorter list stands a top above every value.
abbrev pub are_below : List Measured → List Measured → Bool
are_below [] others = false
are_below (a ∷ more) [] = true
are_below (a ∷ more) (b ∷ others) = falls a b || (stays a b && are_below more others)
