-- Heaps: finite maps from references to objects.
use Rattle.std.specs.Prelude.{ℕ, zero, suc, Bool, true, false, ◌&&◌, ◌||◌, ◌==◌, List, [], ◌∷◌, ◌++◌, length, slice_set, Option, None, Some, if◌then◌else◌}
use Rattle.std.specs.Option.{option_map, option_map_or, option_and_then}
use Rattle.std.specs.List.{list_all, filter_map}
use Rattle.df_types.specs.Ty.{Ty, Newtype, Int, Nat, Boolean, Char, AnyObject, Class, Array, Seq, Set, Data, Parameter, same_type}
use Rattle.df_meaning2.specs.Value.{Value, NullReference, Truth, Character, Number, Reference, Made, Sequence, Collection, Memory, list_of, values_of, all_same, is_among, items_of, reference_of, Objects, no_object, instance_at, elements_at}

pub data Object : Type 0 where
  Instance : (class : ℕ) (slots : List Value) → Object
  Elements : (element : Ty) (slots : List Value) → Object

abbrev pub slots_of : Object → List Value
slots_of (Instance class slots) = slots
slots_of (Elements element slots) = slots

abbrev pub with_slots : Object → List Value → Object
with_slots (Instance class slots) vs = Instance class vs
with_slots (Elements element slots) vs = Elements element vs

abbrev pub Heap : Type 0
Heap = Objects

-- the object of a reference, if it is there
abbrev pub find : Heap → ℕ → Option Object
find no_object k = None
find (instance_at r class slots rest) k = if k == r then Some (Instance class (list_of slots)) else find rest k
find (elements_at r element slots rest) k = if k == r then Some (Elements element (list_of slots)) else find rest k

abbrev pub heap_with : Heap → ℕ → Object → Heap
heap_with heap r (Instance class slots) = instance_at r class (values_of slots) heap
heap_with heap r (Elements element slots) = elements_at r element (values_of slots) heap

abbrev pub object_at : Heap → Value → Option Object
object_at heap v = option_and_then (find heap) (reference_of v)

abbrev pub slots_at : Heap → Value → List Value
slots_at heap v = option_map_or slots_of (object_at heap v) []

-- the object is of the kind that the type names
abbrev pub is_of_kind : Ty → Object → Bool
is_of_kind (Newtype d) object = false
is_of_kind Int object = false
is_of_kind Nat object = false
is_of_kind Boolean object = false
is_of_kind Char object = false
is_of_kind (AnyObject nullable) object = true
is_of_kind (Class nullable decl) (Instance class slots) = decl == class
is_of_kind (Class nullable decl) (Elements element slots) = false
is_of_kind (Array nullable t) (Instance class slots) = false
is_of_kind (Array nullable t) (Elements element slots) = same_type t element
is_of_kind (Seq t) object = false
is_of_kind (Set t) object = false
is_of_kind (Data d ts) object = false
is_of_kind (Parameter n) object = false

abbrev pub is_there : Heap → Ty → Value → Bool
is_there heap t v = option_map_or (is_of_kind t) (object_at heap v) false

-- an object that the other heap does not have
abbrev pub is_new : Heap → Value → Bool
is_new entry v = option_map_or (λ r. option_map_or (λ object. false) (find entry r) true) (reference_of v) false

-- ---- frames: sets of references

abbrev pub references_in : List Value → List Value
references_in vs = filter_map (λ v. option_map (λ r. Reference r) (reference_of v)) vs

-- of an object, and of a set of them; null is none
abbrev pub members_in : Value → List Value
members_in NullReference = []
members_in (Truth b) = []
members_in (Character code) = []
members_in (Number n) = []
members_in (Reference r) = Reference r ∷ []
members_in (Made c parts) = []
members_in (Sequence vs) = []
members_in (Collection vs) = references_in (list_of vs)
members_in (Memory objects) = []

abbrev pub frame_members : List Value → List Value
frame_members [] = []
frame_members (v ∷ vs) = members_in v ++ frame_members vs

-- What may be read, or changed, of an object at a slot. A new object may be changed.
abbrev pub may_read : Option Value → Value → ℕ → Bool
may_read None v slot = true
may_read (Some readable) v slot = is_among v (items_of readable)

abbrev pub may_change : Value → Heap → Value → ℕ → Bool
may_change changeable entry v slot = is_among v (items_of changeable) || is_new entry v

-- all that the one frame has is in the other
abbrev pub lies_in_readable : Option Value → Value → Bool
lies_in_readable readable frame = list_all (λ v. may_read readable v 0) (items_of frame)

abbrev pub lies_in_changeable : Value → Heap → Value → Bool
lies_in_changeable changeable entry frame = list_all (λ v. may_change changeable entry v 0) (items_of frame)

-- ---- what changes

abbrev pub put_slot : Heap → Value → ℕ → Value → Heap
put_slot heap v n x = option_map_or (λ r. option_map_or (λ object. heap_with heap r (with_slots object (slice_set (slots_of object) n x))) (find heap r) heap) (reference_of v) heap

abbrev pub with_object : Heap → Value → Object → Heap
with_object heap v object = option_map_or (λ r. heap_with heap r object) (reference_of v) heap

-- the least reference that is not used, from a number on; one of as many as there are objects, and one more, is free
abbrev pub object_count : Heap → ℕ
object_count no_object = 0
object_count (instance_at r class slots rest) = suc (object_count rest)
object_count (elements_at r element slots rest) = suc (object_count rest)

abbrev pub unused_from : Heap → ℕ → ℕ → ℕ
unused_from heap zero r = r
unused_from heap (suc n) r = option_map_or (λ object. unused_from heap n (suc r)) (find heap r) r

abbrev pub least_unused : Heap → ℕ
least_unused heap = unused_from heap (object_count heap) 1

-- ---- each object of a heap is still there, with its kind and its length, and with its slots too, unless they are free

abbrev pub is_shaped : Object → Object → Bool
is_shaped (Instance class slots) (Instance other others) = (class == other) && (length slots == length others)
is_shaped (Elements element slots) (Elements other others) = same_type element other && (length slots == length others)
is_shaped (Instance class slots) (Elements other others) = false
is_shaped (Elements element slots) (Instance other others) = false

abbrev pub is_kept : Bool → Option Object → Option Object → Bool
is_kept is_free None b = true
is_kept is_free (Some a) None = false
is_kept is_free (Some a) (Some b) = is_shaped a b && (is_free || all_same (values_of (slots_of a)) (values_of (slots_of b)))

abbrev pub keeps_each : (Value → Bool) → Heap → Heap → Heap → Bool
keeps_each free heap later no_object = true
keeps_each free heap later (instance_at r class slots rest) = is_kept (free (Reference r)) (find heap r) (find later r) && keeps_each free heap later rest
keeps_each free heap later (elements_at r element slots rest) = is_kept (free (Reference r)) (find heap r) (find later r) && keeps_each free heap later rest

abbrev pub keeps : (Value → Bool) → Heap → Heap → Bool
keeps free heap later = keeps_each free heap later heap
