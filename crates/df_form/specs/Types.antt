-- Types: the sort of their values, and which values are of them.
use Rattle.std.specs.Prelude.{ℤ, pos, Bool, true, false, int_le, nat_lt}
use Rattle.std.specs.Option.{option_map_or}
use Rattle.df_lang.specs.declared.ty.Ty.{Ty}
use Rattle.df_lang.specs.declared.ty.Ty.TheVariants as types
use Rattle.df_meaning.specs.Value.{Value, Truth, Character, Number}
use Rattle.df_form.specs.declared.node.Sort.{Sort}
use Rattle.df_form.specs.declared.node.Sort.TheVariants as sorts
use Rattle.df_form.specs.World.{World, Ends, is_within, ends_at}

-- the sort of the values of a type
abbrev pub sort_of_type : Ty → Sort
sort_of_type (types.Newtype number) = sorts.Number
sort_of_type types.Int = sorts.Number
sort_of_type types.Nat = sorts.Number
sort_of_type types.Bool = sorts.Truth
sort_of_type types.Char = sorts.Character

-- the number is of the type: any number is an `int`
abbrev pub has_number : World → Ty → ℤ → Bool
has_number world (types.Newtype number) n = option_map_or (λ (ends : Ends). is_within ends n) (ends_at world number) false
has_number world types.Int n = true
has_number world types.Nat n = int_le (pos 0) n
has_number world types.Bool n = false
has_number world types.Char n = false

-- the value is of the type
abbrev pub has_type : World → Ty → Value → Bool
has_type world ty (Number n) = has_number world ty n
has_type world types.Bool (Truth b) = true
has_type world types.Char (Character c) = nat_lt c 128
has_type world ty value = false
