-- Which values are of a type.
use Rattle.std.specs.Prelude.{◌≡◌, ℤ, pos, Bool, true, false, ◌&&◌, int_le, nat_lt, List, [], ◌∷◌}
use Rattle.std.specs.Option.{option_map_or}
use Rattle.df_lang.specs.declared.ty.Ty.{Ty}
use Rattle.df_lang.specs.declared.ty.Ty.TheVariants as types
use Rattle.df_lang.specs.Newtype.{Newtype}
use Rattle.df_lang.specs.Program.{Program, newtype_at}
use Rattle.df_meaning.specs.Value.{Value, Truth, Character, Number}

-- the number lies in the newtype's interval
abbrev pub holds : Newtype → ℤ → Bool
holds newtype n = int_le newtype.low n && int_le n newtype.high

-- the number is one of the type: any number is an `int`; of a character it is the code
abbrev pub is_in : Program → Ty → ℤ → Bool
is_in program (types.Newtype id) n = option_map_or (λ (newtype : Newtype). holds newtype n) (newtype_at program id) false
is_in program types.Int n = true
is_in program types.Nat n = int_le (pos 0) n
is_in program types.Bool n = false
is_in program types.Char n = int_le (pos 0) n && int_le n (pos 127)

-- the value is of the type
abbrev pub has_type : Program → Ty → Value → Bool
has_type program types.Bool (Truth b) = true
has_type program types.Char (Character c) = nat_lt c 128
has_type program types.Int (Number n) = true
has_type program types.Nat (Number n) = is_in program types.Nat n
has_type program (types.Newtype id) (Number n) = is_in program (types.Newtype id) n
has_type program ty value = false

abbrev pub HasType : Program → Ty → Value → Type 0
HasType program ty value = has_type program ty value ≡ true

-- as many values as types, each of its type
abbrev pub have_types : Program → List Ty → List Value → Bool
have_types program [] [] = true
have_types program [] (value ∷ others) = false
have_types program (ty ∷ more) [] = false
have_types program (ty ∷ more) (value ∷ others) = has_type program ty value && have_types program more others
