-- The values of a store.
use Rattle.std.specs.Prelude.{◌≡◌, ℕ, true, List, length, Result, Ok, Err}
use Rattle.df_vm_store.specs.declared.word.Word.{Word}
use Rattle.df_vm_store.specs.declared.halt.Halt.{Halt}
use Rattle.df_vm_store.specs.declared.store.Store.{Store}
use Rattle.df_mach2.specs.Value.{Value}
use Rattle.df_vm_store.specs.Meaning.{value_in, meanings, is_within}

abbrev pub cells_of : Store → List Word
cells_of s = s.cells.items

-- how many cells it has
abbrev pub size_of : Store → ℕ
size_of s = length (cells_of s)

abbrev pub values_in : Store → List Value
values_in s = meanings (cells_of s)

-- the value of a word
abbrev pub value_at : Store → Word → Value
value_at s w = value_in (values_in s) w

-- the word that is answered speaks of so many cells
abbrev pub Stands : ℕ → Result Word Halt → Type 0
Stands n (Ok w) = is_within n w ≡ true
Stands n (Err h) = Unit {0}
