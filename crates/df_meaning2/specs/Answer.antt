-- What each strict operation gives for the values of its operands: one table.
use Rattle.std.specs.Prelude.{◌≡◌, ℕ, ℤ, pos, neg_ℤ, ◌+ℤ◌, ◌-ℤ◌, ◌*ℤ◌, int_le, int_lt, Bool, true, false, not, ◌&&◌, ◌==◌, List, [], ◌∷◌, length, map, slice_index_or, Option, if◌then◌else◌}
use Rattle.std.specs.Ordering.{int_eq}
use Rattle.std.specs.Int.{int_div_euclid, int_rem_euclid}
use Rattle.df_types.specs.declared.kind.Kind.{Kind}
use Rattle.df_types.specs.declared.kind.Kind.TheVariants as kinds
use Rattle.df_types.specs.declared.op.Comparison.{Comparison}
use Rattle.df_types.specs.declared.op.Comparison.TheVariants.{Equal, NotEqual, Less, AtMost, Greater, AtLeast}
use Rattle.df_types.specs.Ty.{Ty, Newtype, Int, Nat, Boolean, Char, AnyObject, Class, Array, Seq, Set, Data, Parameter, Tys}
use Rattle.df_types.specs.Op.{Op}
use Rattle.df_types.specs.Program.{Program}
use Rattle.df_meaning2.specs.Value.{Value, NullReference, Truth, Character, Number, Reference, Made, Sequence, Collection, Memory, list_of, values_of, same, within, set_of, is_among, number_of, truth_of, items_of, constructor_of, nat_of}
use Rattle.df_meaning2.specs.Heap.{Heap, frame_members}
use Rattle.df_meaning2.specs.Types.{is_of}

-- a value, behind what is asked for it: the first that is not so is what is wrong
pub data Answer : Type 0 where
  Is : Value → Answer
  Asks : Kind → Bool → Answer → Answer

-- the value is so, where what is asked is so
abbrev pub EachAnswer : (Value → Type 0) → Answer → Type 0
EachAnswer P (Is v) = P v
EachAnswer P (Asks kind is_met rest) = is_met ≡ true → EachAnswer P rest

-- what an operation sees beside its operands
pub record View : Type 0 where
  pub program : Program
  -- what type parameters stand for
  pub types : Tys
  pub heap : Heap
  pub entry : Heap
  pub readable : Option Value
  pub changeable : Value

-- ---- a value at a type

abbrev pub number_in : Ty → ℤ → Value
number_in Char (pos c) = Character c
number_in t n = Number n

-- what is asked of a value that goes to a place of the type
abbrev pub kind_of : Ty → Kind
kind_of (Newtype d) = kinds.Range
kind_of Int = kinds.Range
kind_of Nat = kinds.Range
kind_of Boolean = kinds.Range
kind_of Char = kinds.Range
kind_of (AnyObject nullable) = kinds.Null
kind_of (Class nullable d) = kinds.Null
kind_of (Array nullable t) = kinds.Null
kind_of (Seq t) = kinds.Range
kind_of (Set t) = kinds.Range
kind_of (Data d ts) = kinds.Range
kind_of (Parameter n) = kinds.Range

abbrev pub in_type : View → Ty → Value → Answer
in_type view t v = Asks (kind_of t) (is_of view.program view.types t v) (Is v)

-- ---- parts

abbrev pub nth : List Value → ℕ → Value
nth vs n = slice_index_or vs n NullReference

abbrev pub number_at : List Value → ℕ → ℤ
number_at vs n = number_of (nth vs n)

abbrev pub count : List Value → ℤ
count vs = pos (length vs)

abbrev pub is_index : ℤ → ℤ → Bool
is_index n end = int_le (pos 0) n && int_lt n end

abbrev pub item : List Value → ℤ → Answer
item vs n = Asks kinds.Index (is_index n (count vs)) (Is (nth vs (nat_of n)))

-- of sets: each member of the one is one of the other
abbrev pub at_most : Value → Value → Bool
at_most (Collection vs) w = within (list_of vs) (items_of w)
at_most NullReference w = int_le (number_of NullReference) (number_of w)
at_most (Truth b) w = int_le (number_of (Truth b)) (number_of w)
at_most (Character c) w = int_le (number_of (Character c)) (number_of w)
at_most (Number n) w = int_le (number_of (Number n)) (number_of w)
at_most (Reference r) w = int_le (number_of (Reference r)) (number_of w)
at_most (Made c vs) w = int_le (number_of (Made c vs)) (number_of w)
at_most (Sequence vs) w = int_le (number_of (Sequence vs)) (number_of w)
at_most (Memory objects) w = int_le (number_of (Memory objects)) (number_of w)

-- characters by their codes
abbrev pub compare : Comparison → Value → Value → Bool
compare Equal v w = same v w
compare NotEqual v w = not (same v w)
compare Less v w = int_lt (number_of v) (number_of w)
compare AtMost v w = at_most v w
compare Greater v w = int_lt (number_of w) (number_of v)
compare AtLeast v w = at_most w v

-- which part a destructor names, of those of the constructors that have it
abbrev pub has_part : List (ℕ × ℕ) → ℕ → Bool
has_part [] c = false
has_part (part ∷ others) c = if part.0 == c then true else has_part others c

abbrev pub part_in : List (ℕ × ℕ) → ℕ → ℕ
part_in [] c = 0
part_in (part ∷ others) c = if part.0 == c then part.1 else part_in others c

-- ---- the table

abbrev pub answer : View → Op → List Value → Answer
answer view (Op.NumberOf t n) vs = in_type view t (Number n)
answer view (Op.TruthOf b) vs = Is (Truth b)
answer view (Op.CharacterOf code) vs = Is (Character code)
answer view (Op.TextOf characters) vs = Is (Sequence (values_of (map Character characters)))
answer view (Op.NullOf t) vs = Is NullReference
answer view (Op.Negate t) vs = in_type view t (Number (neg_ℤ (number_at vs 0)))
answer view (Op.Add t) vs = in_type view t (Number (number_at vs 0 +ℤ number_at vs 1))
answer view (Op.Subtract t) vs = in_type view t (Number (number_at vs 0 -ℤ number_at vs 1))
answer view (Op.Multiply t) vs = in_type view t (Number (number_at vs 0 *ℤ number_at vs 1))
answer view (Op.Divide t) vs = Asks kinds.Divisor (not (int_eq (number_at vs 1) (pos 0))) (in_type view t (Number (int_div_euclid (number_at vs 0) (number_at vs 1))))
answer view (Op.Modulo t) vs = Asks kinds.Divisor (not (int_eq (number_at vs 1) (pos 0))) (in_type view t (Number (int_rem_euclid (number_at vs 0) (number_at vs 1))))
answer view Op.Not vs = Is (Truth (not (truth_of (nth vs 0))))
answer view (Op.Compare comparison t) vs = Is (Truth (compare comparison (nth vs 0) (nth vs 1)))
answer view (Op.As source target) vs = in_type view target (number_in target (number_at vs 0))
answer view (Op.Fit source target) vs = Is (nth vs 0)
answer view (Op.Narrow source target) vs = in_type view target (nth vs 0)
answer view (Op.SequenceOf element size) vs = Is (Sequence (values_of vs))
answer view (Op.SetOf element size) vs = Is (set_of vs)
answer view (Op.SequenceSize element) vs = Is (Number (count (items_of (nth vs 0))))
answer view (Op.SetSize element) vs = Is (Number (count (items_of (nth vs 0))))
answer view (Op.InSequence element) vs = Is (Truth (is_among (nth vs 0) (items_of (nth vs 1))))
answer view (Op.InSet element) vs = Is (Truth (is_among (nth vs 0) (items_of (nth vs 1))))
answer view (Op.Item element) vs = item (items_of (nth vs 0)) (number_at vs 1)
answer view (Op.Construct t c) vs = Is (Made c (values_of vs))
answer view (Op.HasConstructor t c) vs = Is (Truth (constructor_of (nth vs 0) == c))
answer view (Op.Part t target parts) vs = Asks kinds.Match (has_part parts (constructor_of (nth vs 0))) (Is (nth (items_of (nth vs 0)) (part_in parts (constructor_of (nth vs 0)))))
answer view (Op.ObjectsOf types) vs = Is (set_of (frame_members vs))
answer view (Op.NoneFits t) vs = Asks kinds.Match false (Is NullReference)
