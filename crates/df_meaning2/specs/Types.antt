-- Which values a type has.
use Rattle.std.specs.Prelude.{ℕ, Bool, true, false, ◌&&◌, nat_lt, int_le, ℤ, pos, List, [], ◌∷◌, length}
use Rattle.std.specs.Option.{option_map_or}
use Rattle.df_types.specs.Ty.{Ty, Newtype, Int, Nat, Boolean, Char, AnyObject, Class, Array, Seq, Set, Data, Tys, instance_of}
use Rattle.df_types.specs.Program as programs
use Rattle.df_types.specs.Program.{Program, newtype_at, constructors_at, parts_of}
use Rattle.df_meaning2.specs.Value.{Value, NullReference, Truth, Character, Number, Reference, Made, Sequence, Collection, Values, no_value, value, is_ascending}

-- the number lies in the newtype's interval
abbrev pub is_within : programs.Newtype → ℤ → Bool
is_within x n = int_le x.low n && int_le n x.high

abbrev pub is_in_newtype : Program → ℕ → ℤ → Bool
is_in_newtype p d n = option_map_or (λ (x : programs.Newtype). is_within x n) (newtype_at p d) false

abbrev pub is_reference : Bool → Value → Bool
is_reference nullable NullReference = nullable
is_reference nullable (Reference r) = nat_lt 0 r
is_reference nullable v = false

-- By the value alone: ranges, null only where the type allows it, constructors, parts, elements. A type parameter has no value by itself.
abbrev mutual
  pub has_type : Program → Ty → Value → Bool
  has_type p (Newtype d) (Number n) = is_in_newtype p d n
  has_type p Int (Number n) = true
  has_type p Nat (Number n) = int_le (pos 0) n
  has_type p Boolean (Truth b) = true
  has_type p Char (Character code) = nat_lt code 128
  has_type p (AnyObject nullable) v = is_reference nullable v
  has_type p (Class nullable d) v = is_reference nullable v
  has_type p (Array nullable t) v = is_reference nullable v
  has_type p (Seq t) (Sequence vs) = all_have_type p t vs
  has_type p (Set t) (Collection vs) = is_ascending vs && all_have_type p t vs
  has_type p (Data d ts) (Made c vs) = nat_lt c (length (constructors_at p d)) && have_types p (parts_of p (Data d ts) c) vs
  has_type p t v = false

  pub all_have_type : Program → Ty → Values → Bool
  all_have_type p t no_value = true
  all_have_type p t (value v vs) = has_type p t v && all_have_type p t vs

  pub have_types : Program → List Ty → Values → Bool
  have_types p [] no_value = true
  have_types p [] (value v vs) = false
  have_types p (t ∷ ts) no_value = false
  have_types p (t ∷ ts) (value v vs) = has_type p t v && have_types p ts vs

-- over what the type parameters stand for
abbrev pub is_of : Program → Tys → Ty → Value → Bool
is_of p types t v = has_type p (instance_of types t) v
