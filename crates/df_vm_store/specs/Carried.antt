-- What is carried over to a store of the marked cells.
use Rattle.std.specs.Prelude.{◌≡◌, ◌≤◌, ℕ, Bool, true, List, map, Option, Some, None, Result, Ok, Err, Vec, vec_capacity}
use Rattle.std.specs.declared.alloc.AllocError.{AllocError}
use Rattle.std.specs.declared.alloc.Global.{Global}
use Rattle.df_vm_store.specs.declared.word.Word.{Word}
use Rattle.df_vm_store.specs.declared.store.Store.{Store}
use Rattle.df_vm_store.specs.declared.compact.Compacted.{Compacted}
use Rattle.df_vm_store.specs.Meaning.{value_in, are_within, Grows}
use Rattle.df_vm_store.specs.Compact.{kept}
use Rattle.df_vm_store.specs.View.{values_in, size_of}

-- the values of the copy are a front of those that were kept
abbrev pub IfCopied : Result (Option Store) AllocError → List Bool → Store → Type 0
IfCopied (Ok (Some copy)) live store = Grows (values_in copy) (kept live (values_in store))
IfCopied (Ok None) live store = Unit {0}
IfCopied (Err e) live store = Unit {0}

-- the words have the values that they had
abbrev pub IfCarried : Result (Option (Vec Word Global)) AllocError → Store → Store → List Word → Type 0
IfCarried (Ok (Some words)) copy store old = (map (value_in (values_in copy)) words.items ≡ map (value_in (values_in store)) old) × (are_within (size_of copy) words.items ≡ true)
IfCarried (Ok None) copy store old = Unit {0}
IfCarried (Err e) copy store old = Unit {0}

-- there is room for so many
abbrev pub HasRoom : Result (Option (Vec Word Global)) AllocError → ℕ → Type 0
HasRoom (Ok (Some words)) room = room ≤ vec_capacity words
HasRoom (Ok None) room = Unit {0}
HasRoom (Err e) room = Unit {0}

-- words over another store have the values that these had, and there is room for so many
pub record SameWords (new store : Store) (words : Vec Word Global) (old : List Word) (room : ℕ) : Type 0 where
  pub values : map (value_in (values_in new)) words.items ≡ map (value_in (values_in store)) old
  pub within : are_within (size_of new) words.items ≡ true
  pub wide : room ≤ vec_capacity words

-- words over another store have the values that they had, and no less room
abbrev pub SameValues : (new store : Store) → (words old : Vec Word Global) → Type 0
SameValues new store words old = SameWords new store words old.items (vec_capacity old)

abbrev pub IfCompacted : Result (Option Compacted) AllocError → Store → (locals operands slots : Vec Word Global) → Type 0
IfCompacted (Ok (Some c)) store locals operands slots = SameValues c.store store c.locals locals × SameValues c.store store c.operands operands × SameValues c.store store c.slots slots
IfCompacted (Ok None) store locals operands slots = Unit {0}
IfCompacted (Err e) store locals operands slots = Unit {0}
