-- Values of the machine as trees, when two are equal, and what is read of them.
use Rattle.std.specs.Prelude.{ℕ, ℤ, pos, negsuc, Bool, true, false, not, ◌&&◌, nat_eq, nat_lt, nat_le, int_lt, int_le, List, [], ◌∷◌, get_or}
use Rattle.std.specs.Ordering.{int_eq}

mutual
  pub data Value : Type 0 where
    Number : ℤ → Value
    Truth : Bool → Value
    -- a character by its code
    Char : ℕ → Value
    Null : Value
    Reference : ℕ → Value
    -- a constructor by its number, and its arguments
    Data : (tag : ℕ) (parts : Values) → Value
    Sequence : Values → Value

  pub data Values : Type 0 where
    no_value : Values
    value : Value → Values → Values

abbrev pub list_of : Values → List Value
list_of no_value = []
list_of (value v vs) = v ∷ list_of vs

abbrev pub values_of : List Value → Values
values_of [] = no_value
values_of (v ∷ vs) = value v (values_of vs)

abbrev pub same_truth : Bool → Bool → Bool
same_truth true b = b
same_truth false b = not b

-- equality: values of two kinds differ
abbrev mutual
  pub same : Value → Value → Bool
  same (Number a) (Number b) = int_eq a b
  same (Truth a) (Truth b) = same_truth a b
  same (Char a) (Char b) = nat_eq a b
  same Null Null = true
  same (Reference a) (Reference b) = nat_eq a b
  same (Data a vs) (Data b ws) = nat_eq a b && all_same vs ws
  same (Sequence vs) (Sequence ws) = all_same vs ws
  same v w = false

  pub all_same : Values → Values → Bool
  all_same no_value no_value = true
  all_same (value v vs) (value w ws) = same v w && all_same vs ws
  all_same vs ws = false

-- ---- readings: a default stands where there is nothing of the kind

abbrev pub is_number : Value → Bool
is_number (Number n) = true
is_number v = false

abbrev pub number_in : Value → ℤ
number_in (Number n) = n
number_in v = pos 0

abbrev pub is_truth : Value → Bool
is_truth (Truth b) = true
is_truth v = false

abbrev pub truth_in : Value → Bool
truth_in (Truth b) = b
truth_in v = false

abbrev pub is_char : Value → Bool
is_char (Char c) = true
is_char v = false

abbrev pub char_in : Value → ℕ
char_in (Char c) = c
char_in v = 0

abbrev pub is_data : Value → Bool
is_data (Data tag parts) = true
is_data v = false

abbrev pub tag_in : Value → ℕ
tag_in (Data tag parts) = tag
tag_in v = 0

abbrev pub parts_in : Value → List Value
parts_in (Data tag parts) = list_of parts
parts_in v = []

abbrev pub is_sequence : Value → Bool
is_sequence (Sequence members) = true
is_sequence v = false

abbrev pub members_in : Value → List Value
members_in (Sequence members) = list_of members
members_in v = []

-- whether two values have an order: numbers and characters
abbrev pub are_ordered : Value → Value → Bool
are_ordered (Number a) (Number b) = true
are_ordered (Char a) (Char b) = true
are_ordered v w = false

abbrev pub is_below : Value → Value → Bool
is_below (Number a) (Number b) = int_lt a b
is_below (Char a) (Char b) = nat_lt a b
is_below v w = false

abbrev pub is_at_most : Value → Value → Bool
is_at_most (Number a) (Number b) = int_le a b
is_at_most (Char a) (Char b) = nat_le a b
is_at_most v w = false

-- the value at a place
abbrev pub nth : List Value → ℕ → Value
nth vs i = get_or vs i Null

-- ---- places in lists, as numbers name them

abbrev pub place_of : ℤ → ℕ
place_of (pos n) = n
place_of (negsuc n) = 0

-- whether a number is a place below this one
abbrev pub is_place : ℤ → ℕ → Bool
is_place (pos n) count = nat_lt n count
is_place (negsuc n) count = false

-- the same up to this one
abbrev pub is_bound : ℤ → ℕ → Bool
is_bound (pos n) count = nat_le n count
is_bound (negsuc n) count = false
