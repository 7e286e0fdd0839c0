-- Pieces of the cells that are compared.
use Rattle.std.specs.Prelude.{◌≡◌, ℕ, suc, ◌+◌, ◌-◌, ◌<◌, ◌≤◌, Bool, true, false, ◌&&◌, ◌||◌, nat_eq, nat_lt, nat_le, cond, List, [], ◌∷◌, ◌++◌, take, drop}
use Rattle.std.specs.List.{list_all}
use Rattle.df_vm_store.specs.declared.word.Word.{Word}
use Rattle.df_vm_store.specs.declared.word.Word.TheVariants as words
use Rattle.df_vm_store.specs.declared.equal.Pair.{Pair}
use Rattle.df_vm_store.specs.declared.equal.Shallow.{Shallow}
use Rattle.df_vm_store.specs.declared.equal.Shallow.TheVariants as shallow
use Rattle.df_mach2.specs.Value.{Value, Values, Number, Truth, Char, Null, Reference, Data, Sequence, no_value, value, values_of, all_same}
use Rattle.df_vm_store.specs.Meaning.{value_in}

-- whether two pieces of the values are the same
abbrev pub is_same_pair : List Value → Pair → Bool
is_same_pair vs p = all_same (values_of (take p.count (drop p.left vs))) (values_of (take p.count (drop p.right vs)))

-- what follows the first of each
abbrev pub next_pair : Pair → Pair
next_pair p = record { left = p.left + 1; right = p.right + 1; count = p.count - 1 }

unfoldable pub are_same_pairs : List Value → List Pair → Bool
are_same_pairs vs pairs = list_all (is_same_pair vs) pairs

-- what two words tell of whether their values are the same
abbrev pub Tells : Shallow → List Value → Bool → Type 0
Tells shallow.Differ vs same = same ≡ false
Tells shallow.Equal vs same = same ≡ true
Tells (shallow.Deeper p) vs same = same ≡ is_same_pair vs p

-- A pair is compared: where it may be the same it is, if the pairs that are put are.
abbrev pub Compares : Bool → Bool → Bool → Bool → Type 0
Compares true pair old new = new ≡ (old && pair)
Compares false pair old new = pair ≡ false

-- ---- the room that comparing takes: each pair ends below the one before it

-- nonempty pairs within so many cells, of which the left one of each ends below this, and then below those before it
unfoldable pub fall : (size below : ℕ) → List Pair → Bool
fall size below [] = true
fall size below (p ∷ ps) = nat_lt 0 p.count && (nat_le (p.left + p.count) below && (nat_le (p.right + p.count) size && fall size (p.left + p.count - 1) ps))

-- below what one more may end
unfoldable pub floor_of : ℕ → List Pair → ℕ
floor_of below [] = below
floor_of below (p ∷ ps) = floor_of (p.left + p.count - 1) ps

-- the pairs with one more, if there is anything in it
abbrev pub deferred : List Pair → Pair → List Pair
deferred pairs p = cond (nat_eq p.count 0) pairs (pairs ++ p ∷ [])

abbrev pub falls_with : ℕ → List Pair → Pair → Bool
falls_with size pairs p = nat_eq p.count 0 || fall size size (pairs ++ p ∷ [])

-- where the cells end that a word speaks of
abbrev pub end_of : Word → ℕ
end_of (words.Number n) = 0
end_of (words.Truth b) = 0
end_of (words.Char c) = 0
end_of words.Null = 0
end_of (words.Reference r) = 0
end_of (words.Data tag from count) = from + count
end_of (words.Sequence from count) = from + count

-- ---- the work that is left: how many values there are in the left pieces

abbrev mutual
  pub weight : Value → ℕ
  weight (Number n) = 1
  weight (Truth b) = 1
  weight (Char c) = 1
  weight Null = 1
  weight (Reference r) = 1
  weight (Data tag parts) = suc (weights parts)
  weight (Sequence members) = suc (weights members)

  pub weights : Values → ℕ
  weights no_value = 0
  weights (value v vs) = weight v + weights vs

abbrev pub pair_work : List Value → Pair → ℕ
pair_work vs p = weights (values_of (take p.count (drop p.left vs)))

unfoldable pub work : List Value → List Pair → ℕ
work vs [] = 0
work vs (p ∷ ps) = pair_work vs p + work vs ps

-- what is deeper lies below where the left word ends, within so many cells, and is less work than its value
abbrev pub GoesInto : Shallow → Word → ℕ → List Value → Type 0
GoesInto shallow.Differ w size vs = Unit {0}
GoesInto shallow.Equal w size vs = Unit {0}
GoesInto (shallow.Deeper p) w size vs = (p.left + p.count ≤ end_of w) × (p.right + p.count ≤ size) × (pair_work vs p < weight (value_in vs w))

-- what is deeper is this pair
abbrev pub Deepens : Shallow → Pair → Type 0
Deepens shallow.Differ q = Unit {0}
Deepens shallow.Equal q = Unit {0}
Deepens (shallow.Deeper p) q = p ≡ q

-- the right piece of what is deeper ends within so many cells
abbrev pub EndsWithin : Shallow → ℕ → Type 0
EndsWithin shallow.Differ size = Unit {0}
EndsWithin shallow.Equal size = Unit {0}
EndsWithin (shallow.Deeper p) size = p.right + p.count ≤ size
