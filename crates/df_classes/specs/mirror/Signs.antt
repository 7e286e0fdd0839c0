-- What is known of classes: whether a held literal of each sign is in one, and a number that is. All of it has a stamp:
-- how many literals were held when it came. What came with more literals than are held counts for nothing.
use Rattle.std.specs.Prelude.{◌≡◌, ◌<◌, ◌≤◌, ℕ, ℤ, Bool, true, false, nat_le, List, length, get_or, Option, None, Some, Contains, if◌then◌else◌}
use Rattle.std.specs.Ordering.{int_eq}
use Rattle.df_form.specs.declared.log.Lit.{Lit}
use Rattle.df_form.specs.Node.{Node}
use Rattle.df_rules.specs.CongruenceLine.{number_at}
use Rattle.df_classes.specs.declared.slots.Slot.{Slot}
use Rattle.df_classes.specs.declared.partition.Change.{Change}
use Rattle.df_classes.specs.declared.partition.Change.TheVariants as changes

abbrev pub stamp_at : List (Option ℕ) → ℕ → Option ℕ
stamp_at stamps label = get_or stamps label None

abbrev pub is_early : Option ℕ → ℕ → Bool
is_early None held = false
is_early (Some stamp) held = nat_le stamp held

-- the label is marked where so many literals are held
abbrev pub is_stamped : List (Option ℕ) → ℕ → ℕ → Bool
is_stamped stamps label held = is_early (stamp_at stamps label) held

-- marks stay
pub record KeepsStamps (old new : List (Option ℕ)) : Type 0 where
  pub long : length new ≡ length old
  pub stay : (label held : ℕ) → is_stamped old label held ≡ true → is_stamped new label held ≡ true

-- those that count where at most so many literals are held
pub record KeepsStampsTo (count : ℕ) (old new : List (Option ℕ)) : Type 0 where
  pub long : length new ≡ length old
  pub stay : (label held : ℕ) → held ≤ count → is_stamped old label held ≡ true → is_stamped new label held ≡ true

abbrev pub early_node : Option Slot → ℕ → Option ℕ
early_node None held = None
early_node (Some slot) held = if nat_le slot.since held then Some slot.node else None

-- the number of a label where so many literals are held
abbrev pub slot_node : List (Option Slot) → ℕ → ℕ → Option ℕ
slot_node slots label held = early_node (get_or slots label None) held

abbrev pub are_one : Option ℤ → Option ℤ → Bool
are_one (Some j) (Some k) = int_eq j k
are_one a b = false

-- it is this number
pub record HasNumber (nodes : List Node) (slots : List (Option Slot)) (label held : ℕ) (k : ℤ) : Type 0 where
  pub other : ℕ
  pub there : slot_node slots label held ≡ Some other
  pub number : number_at nodes other ≡ Some k

pub record KeepsSlotsTo (count : ℕ) (old new : List (Option Slot)) : Type 0 where
  pub long : length new ≡ length old
  pub stay : (label held node : ℕ) → held ≤ count → slot_node old label held ≡ Some node → slot_node new label held ≡ Some node

pub record Tables : Type 0 where
  pub positives : List (Option ℕ)
  pub negatives : List (Option ℕ)
  pub slots : List (Option Slot)

pub record KeepsTables (count : ℕ) (old new : Tables) : Type 0 where
  pub positives : KeepsStampsTo count old.positives new.positives
  pub negatives : KeepsStampsTo count old.negatives new.negatives
  pub slots : KeepsSlotsTo count old.slots new.slots

-- the tables have a place for each node
pub record AreWide (count : ℕ) (t : Tables) : Type 0 where
  pub positives : length t.positives ≡ count
  pub negatives : length t.negatives ≡ count
  pub slots : length t.slots ≡ count

-- What is known of the class that a node left is known of its new one, and so is the number that the node is.
pub record CarriesNode (nodes : List Node) (label : ℕ → ℕ) (held n before : ℕ) (old new : Tables) : Type 0 where
  pub positive : is_stamped old.positives before held ≡ true → label n < length old.positives → is_stamped new.positives (label n) held ≡ true
  pub negative : is_stamped old.negatives before held ≡ true → label n < length old.negatives → is_stamped new.negatives (label n) held ≡ true
  pub number : (k : ℤ) → number_at nodes n ≡ Some k → label n < length old.slots → HasNumber nodes new.slots (label n) held k

-- where a change moved it
abbrev pub Carries : List Node → (ℕ → ℕ) → ℕ → Option Change → Tables → Tables → Type 0
Carries nodes label held (Some (changes.Moved n before)) old new = CarriesNode nodes label held n before old new
Carries nodes label held change old new = Unit {0}

-- the literal's sign is known of its class
pub record Marks (label : ℕ → ℕ) (held : ℕ) (literal : Lit) (t : Tables) : Type 0 where
  pub positive : literal.positive ≡ true → is_stamped t.positives (label literal.node) held ≡ true
  pub negative : literal.positive ≡ false → is_stamped t.negatives (label literal.node) held ≡ true

-- what is known where so many literals are held: the sign of each, and each number
pub record Covers (nodes : List Node) (literals : List Lit) (label : ℕ → ℕ) (held : ℕ) (t : Tables) : Type 0 where
  pub signs : (l : Lit) → Contains literals l → Marks label held l t
  pub each_number : (n : ℕ) (k : ℤ) → number_at nodes n ≡ Some k → HasNumber nodes t.slots (label n) held k
