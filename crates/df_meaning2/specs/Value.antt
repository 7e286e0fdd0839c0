-- Values, their order and their weight.
use Rattle.std.specs.Prelude.{ℕ, ◌+◌, ℤ, pos, Bool, true, false, not, ◌&&◌, ◌||◌, ◌==◌, nat_lt, int_lt, List, [], ◌∷◌, Option, None, Some, if◌then◌else◌}
use Rattle.std.specs.Ordering.{int_eq}
use Rattle.std.specs.List.{list_any, list_all}
use Rattle.df_types.specs.Ty.{Ty, same_type}

mutual
  pub data Value : Type 0 where
    NullReference : Value
    Truth : Bool → Value
    Character : (code : ℕ) → Value
    Number : ℤ → Value
    Reference : ℕ → Value
    Made : (constructor : ℕ) (parts : Values) → Value
    Sequence : Values → Value
    -- strictly ascending
    Collection : Values → Value
    -- a heap: of logic alone, no program has one
    Memory : Objects → Value

  pub data Values : Type 0 where
    no_value : Values
    value : Value → Values → Values

  -- the objects of a heap, what was written last first
  pub data Objects : Type 0 where
    no_object : Objects
    instance_at : (reference class : ℕ) (slots : Values) → Objects → Objects
    elements_at : (reference : ℕ) (element : Ty) (slots : Values) → Objects → Objects

abbrev pub list_of : Values → List Value
list_of no_value = []
list_of (value v vs) = v ∷ list_of vs

abbrev pub values_of : List Value → Values
values_of [] = no_value
values_of (v ∷ vs) = value v (values_of vs)

-- ---- equality

abbrev pub same_truth : Bool → Bool → Bool
same_truth true b = b
same_truth false b = not b

abbrev mutual
  pub same : Value → Value → Bool
  same NullReference NullReference = true
  same (Truth a) (Truth b) = same_truth a b
  same (Character a) (Character b) = a == b
  same (Number a) (Number b) = int_eq a b
  same (Reference a) (Reference b) = a == b
  same (Made a parts) (Made b others) = (a == b) && all_same parts others
  same (Sequence vs) (Sequence ws) = all_same vs ws
  same (Collection vs) (Collection ws) = all_same vs ws
  same (Memory a) (Memory b) = same_objects a b
  same v w = false

  pub all_same : Values → Values → Bool
  all_same no_value no_value = true
  all_same (value v vs) (value w ws) = same v w && all_same vs ws
  all_same vs ws = false

  pub same_objects : Objects → Objects → Bool
  same_objects no_object no_object = true
  same_objects (instance_at r class vs rest) (instance_at k other ws others) = (r == k) && ((class == other) && (all_same vs ws && same_objects rest others))
  same_objects (elements_at r element vs rest) (elements_at k other ws others) = (r == k) && (same_type element other && (all_same vs ws && same_objects rest others))
  same_objects a b = false

-- ---- order: by kind, then by number, then part by part

abbrev pub rank_of : Value → ℕ
rank_of NullReference = 0
rank_of (Truth b) = 1
rank_of (Character code) = 2
rank_of (Number n) = 3
rank_of (Reference r) = 4
rank_of (Made c parts) = 5
rank_of (Sequence vs) = 6
rank_of (Collection vs) = 7
rank_of (Memory objects) = 8

abbrev mutual
  pub precedes : Value → Value → Bool
  precedes (Truth a) (Truth b) = not a && b
  precedes (Character a) (Character b) = nat_lt a b
  precedes (Number a) (Number b) = int_lt a b
  precedes (Reference a) (Reference b) = nat_lt a b
  precedes (Made a parts) (Made b others) = nat_lt a b || ((a == b) && list_precedes parts others)
  precedes (Sequence vs) (Sequence ws) = list_precedes vs ws
  precedes (Collection vs) (Collection ws) = list_precedes vs ws
  -- heaps stand in no set
  precedes (Memory a) (Memory b) = true
  precedes v w = nat_lt (rank_of v) (rank_of w)

  pub list_precedes : Values → Values → Bool
  list_precedes no_value no_value = false
  list_precedes no_value (value w ws) = true
  list_precedes (value v vs) no_value = false
  list_precedes (value v vs) (value w ws) = precedes v w || (same v w && list_precedes vs ws)

-- ---- sets

-- each before the next
abbrev pub precedes_first : Value → Values → Bool
precedes_first v no_value = true
precedes_first v (value w ws) = precedes v w

abbrev pub is_ascending : Values → Bool
is_ascending no_value = true
is_ascending (value v vs) = precedes_first v vs && is_ascending vs

abbrev pub insert : Value → List Value → List Value
insert v [] = v ∷ []
insert v (w ∷ ws) = if precedes v w then v ∷ w ∷ ws else (if same v w then w ∷ ws else w ∷ insert v ws)

abbrev pub ascending : List Value → List Value
ascending [] = []
ascending (v ∷ vs) = insert v (ascending vs)

abbrev pub set_of : List Value → Value
set_of vs = Collection (values_of (ascending vs))

abbrev pub is_among : Value → List Value → Bool
is_among v vs = list_any (same v) vs

abbrev pub within : List Value → List Value → Bool
within vs ws = list_all (λ v. is_among v ws) vs

-- ---- readings: of another kind they are what no well-typed program asks for

abbrev pub number_of : Value → ℤ
number_of (Number n) = n
number_of (Character c) = pos c
number_of NullReference = pos 0
number_of (Truth b) = pos 0
number_of (Reference r) = pos 0
number_of (Made c parts) = pos 0
number_of (Sequence vs) = pos 0
number_of (Collection vs) = pos 0
number_of (Memory objects) = pos 0

abbrev pub truth_of : Value → Bool
truth_of (Truth b) = b
truth_of NullReference = false
truth_of (Character c) = false
truth_of (Number n) = false
truth_of (Reference r) = false
truth_of (Made c parts) = false
truth_of (Sequence vs) = false
truth_of (Collection vs) = false
truth_of (Memory objects) = false

abbrev pub items_of : Value → List Value
items_of (Sequence vs) = list_of vs
items_of (Collection vs) = list_of vs
items_of (Made c parts) = list_of parts
items_of NullReference = []
items_of (Truth b) = []
items_of (Character c) = []
items_of (Number n) = []
items_of (Reference r) = []
items_of (Memory objects) = []

abbrev pub reference_of : Value → Option ℕ
reference_of (Reference r) = Some r
reference_of v = None

abbrev pub constructor_of : Value → ℕ
constructor_of (Made c parts) = c
constructor_of v = 0

abbrev pub nat_of : ℤ → ℕ
nat_of (pos n) = n
nat_of n = 0

-- ---- weight

abbrev mutual
  pub weight : Value → ℕ
  weight NullReference = 0
  weight (Truth b) = 0
  weight (Character code) = 0
  weight (Number n) = 0
  weight (Reference r) = 0
  weight (Made c parts) = 1 + weights parts
  weight (Sequence vs) = weights_of_each vs
  weight (Collection vs) = 0
  weight (Memory objects) = 0

  pub weights : Values → ℕ
  weights no_value = 0
  weights (value v vs) = weight v + weights vs

  -- 1 and the weight of each
  pub weights_of_each : Values → ℕ
  weights_of_each no_value = 0
  weights_of_each (value v vs) = (1 + weight v) + weights_of_each vs
