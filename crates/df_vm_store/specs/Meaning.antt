-- What words mean over cells. Each cell is a word over the cells before it, so the values of all cells are found
-- from the first to the last.
use Rattle.std.specs.Prelude.{◌≡◌, ℕ, suc, ◌+◌, Bool, true, ◌&&◌, nat_le, List, [], ◌∷◌, ◌++◌, length, take, drop}
use Rattle.std.specs.List.{list_all}
use Rattle.df_vm_store.specs.declared.word.Word.{Word}
use Rattle.df_vm_store.specs.declared.word.Word.TheVariants as words
use Rattle.df_mach2.specs.Value.{Value, Number, Truth, Char, Null, Reference, Data, Sequence, values_of}

-- the value of a word over the values of the cells
abbrev pub value_in : List Value → Word → Value
value_in vs (words.Number n) = Number n
value_in vs (words.Truth b) = Truth b
value_in vs (words.Char c) = Char c
value_in vs words.Null = Null
value_in vs (words.Reference r) = Reference r
value_in vs (words.Data tag from count) = Data tag (values_of (take count (drop from vs)))
value_in vs (words.Sequence from count) = Sequence (values_of (take count (drop from vs)))

-- the values of the cells so far, and of these behind them
unfoldable pub meanings_from : List Value → List Word → List Value
meanings_from vs [] = vs
meanings_from vs (w ∷ ws) = meanings_from (vs ++ value_in vs w ∷ []) ws

-- the values of cells
unfoldable pub meanings : List Word → List Value
meanings cells = meanings_from [] cells

-- whether a word speaks of the first n cells only
abbrev pub is_within : ℕ → Word → Bool
is_within n (words.Number k) = true
is_within n (words.Truth b) = true
is_within n (words.Char c) = true
is_within n words.Null = true
is_within n (words.Reference r) = true
is_within n (words.Data tag from count) = nat_le (from + count) n
is_within n (words.Sequence from count) = nat_le (from + count) n

unfoldable pub are_within : ℕ → List Word → Bool
are_within n ws = list_all (is_within n) ws

-- whether each cell speaks of the cells before it only
unfoldable pub are_founded : ℕ → List Word → Bool
are_founded n [] = true
are_founded n (w ∷ ws) = is_within n w && are_founded (suc n) ws

-- the values only grow
pub record Grows (old new : List Value) : Type 0 where
  pub by : take (length old) new ≡ old
