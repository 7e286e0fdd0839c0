-- The definitions, computed on a small sequent.
use Rattle.std.proofs.Common.{◌≡◌, ℕ, zero, suc, ◌<◌, ℤ, pos, ◌+ℤ◌, int_le, ◌≤ℤ◌, true, false, true≢false, List, [], ◌∷◌, take, slice_get, None, Some, refl, sym, arith}
use Rattle.std.proofs.lemmas.Int.{ints}
use Rattle.std.proofs.lemmas.Option.{none-some}
use Rattle.df_form.specs.World.{World}
use Rattle.df_meaning.specs.Value.{Value, Number, Truth, Character, number_of}
use Rattle.df_form.specs.declared.node.Sort.{Sort}
use Rattle.df_form.specs.declared.node.Sort.TheVariants as sorts
use Rattle.df_form.specs.declared.node.Free.{Free}
use Rattle.df_form.specs.declared.node.Op.{Op}
use Rattle.df_form.specs.declared.node.Op.TheVariants as ops
use Rattle.df_form.specs.Node.{Node}
use Rattle.df_form.specs.Truth.{Assignment, has_sort, truth}
use Rattle.df_form.specs.Sequent.{Sequent, IsValid, IsSequent, IsNumbered, Walk, ends, again, first}
use Rattle.df_form.specs.Sorting.{IsTable, is_formula, is_well_sorted}
use Rattle.df_form.specs.Renaming.{IsRenaming, renamed}
use Rattle.df_form.specs.Offset.{offsets, offset_of}
use Rattle.df_form.proofs.Tables.{table_none, table_next}
use Rattle.df_form.proofs.Walks.{walk_parts, one_end}

abbrev node : Op → List ℕ → Node
node op parts = record { op = op; parts = parts }

-- a free number
abbrev x : Free
x = record { number = 0; sort = sorts.Number }

-- it is this number
abbrev value_of : ℤ → Sort → Value
value_of n sorts.Number = Number n
value_of n sorts.Truth = Truth false
value_of n sorts.Character = Character 0

pub has_its_sort : (n : ℤ) (sort : Sort) → has_sort sort (value_of n sort) ≡ true
has_its_sort n sorts.Number = refl
has_its_sort n sorts.Truth = refl
has_its_sort n sorts.Character = refl

abbrev assigned : ℤ → Assignment
assigned n = record { value = λ free. value_of n free.sort; sorted = λ free. has_its_sort n free.sort }

-- x, 3, x <= 3, 1, x + 1, the bound, x + 1 <= the bound
abbrev nodes_to : ℤ → List Node
nodes_to bound = node (ops.Free x) [] ∷ node (ops.Number (pos 3)) [] ∷ node ops.AtMost (0 ∷ 1 ∷ []) ∷ node (ops.Number (pos 1)) [] ∷ node ops.Plus (0 ∷ 3 ∷ []) ∷ node (ops.Number bound) [] ∷ node ops.AtMost (4 ∷ 5 ∷ []) ∷ []

-- x <= 3 |- x + 1 <= the bound
abbrev at_most : World → ℤ → Sequent
at_most world bound = record { world = world; nodes = nodes_to bound; hypotheses = 2 ∷ []; goal = 6 }

-- where x is 3 the hypothesis is true, and the goal only up to 4
pub three_is_at_most_three : (depth : ℕ) (world : World) → truth depth world (assigned (pos 3)) (nodes_to (pos 4)) 2 ≡ true
three_is_at_most_three depth world = refl

pub four_is_at_most_four : (depth : ℕ) (world : World) → truth depth world (assigned (pos 3)) (nodes_to (pos 4)) 6 ≡ true
four_is_at_most_four depth world = refl

pub four_is_above_three : (depth : ℕ) (world : World) → truth depth world (assigned (pos 3)) (nodes_to (pos 3)) 6 ≡ false
four_is_above_three depth world = refl

-- where x is 4 the hypothesis is false
pub four_fails : (depth : ℕ) (world : World) → truth depth world (assigned (pos 4)) (nodes_to (pos 4)) 2 ≡ false
four_fails depth world = refl

-- x <= 3 |- x + 1 <= 4 is valid
below_three : (n : ℤ) → int_le n (pos 3) ≡ true → n ≤ℤ pos 3
below_three n below = grind (arith, ints)

at_most_four : (n : ℤ) → n ≤ℤ pos 3 → int_le (n +ℤ pos 1) (pos 4) ≡ true
at_most_four n below = grind (arith, ints)

pub is_valid : (world : World) → IsValid (at_most world (pos 4))
is_valid world depth assignment holds = let n = number_of (assignment.value x) in at_most_four n (below_three n holds.0)

-- and x <= 3 |- x + 1 <= 3 is not
pub no_three : (world : World) → IsValid (at_most world (pos 3)) → ⊥
no_three world valid = true≢false (sym (valid 0 (assigned (pos 3)) (refl, tt)))

-- each node may stand after those before it, and none stands twice
pub is_table : IsTable (nodes_to (pos 4))
is_table =
    let a = table_next [] (node (ops.Free x) []) table_none refl refl in
    let b = table_next (take 1 (nodes_to (pos 4))) (node (ops.Number (pos 3)) []) a refl refl in
    let c = table_next (take 2 (nodes_to (pos 4))) (node ops.AtMost (0 ∷ 1 ∷ [])) b refl refl in
    let d = table_next (take 3 (nodes_to (pos 4))) (node (ops.Number (pos 1)) []) c refl refl in
    let e = table_next (take 4 (nodes_to (pos 4))) (node ops.Plus (0 ∷ 3 ∷ [])) d refl refl in
    let f = table_next (take 5 (nodes_to (pos 4))) (node (ops.Number (pos 4)) []) e refl refl in
    table_next (take 6 (nodes_to (pos 4))) (node ops.AtMost (4 ∷ 5 ∷ [])) f refl refl

pub is_sequent : (world : World) → IsSequent (at_most world (pos 4))
is_sequent world = record { table = is_table; formulas = refl }

-- a sum is no formula, and takes no formula
pub no_formula : is_formula (nodes_to (pos 4)) 4 ≡ false
no_formula = refl

pub no_sum : is_well_sorted (nodes_to (pos 4)) (node ops.Plus (0 ∷ 2 ∷ [])) ≡ false
no_sum = refl

-- the nodes are numbered in postorder of first occurrence
pub is_numbered : (world : World) → IsNumbered (at_most world (pos 4))
is_numbered world =
    let less : 0 < 3 = omega arith in
    let three : Walk (nodes_to (pos 4)) 0 (0 ∷ 1 ∷ []) 2 = first refl ends (first refl ends ends) in
    let plus : Walk (nodes_to (pos 4)) 3 (0 ∷ 3 ∷ []) 4 = again less (first refl ends ends) in
    first refl three (first refl (first refl plus (first refl ends ends)) ends)

-- 3, x, x <= 3, 1, x + 1, 4, x + 1 <= 4
abbrev swapped_nodes : List Node
swapped_nodes = node (ops.Number (pos 3)) [] ∷ node (ops.Free x) [] ∷ node ops.AtMost (1 ∷ 0 ∷ []) ∷ node (ops.Number (pos 1)) [] ∷ node ops.Plus (1 ∷ 3 ∷ []) ∷ node (ops.Number (pos 4)) [] ∷ node ops.AtMost (4 ∷ 5 ∷ []) ∷ []

abbrev swapped : World → Sequent
swapped world = record { world = world; nodes = swapped_nodes; hypotheses = 2 ∷ []; goal = 6 }

-- with 3 before x they are not: before 2 come its parts, and before x nothing
pub no_swapped : (world : World) → IsNumbered (swapped world) → ⊥
no_swapped world walk =
    let parts = walk_parts swapped_nodes 0 2 (6 ∷ []) 7 (node ops.AtMost (1 ∷ 0 ∷ [])) refl (omega arith) walk in
    let nothing = walk_parts swapped_nodes 0 1 (0 ∷ []) 2 (node (ops.Free x) []) refl (omega arith) parts in
    let same : 1 ≡ 0 = one_end swapped_nodes 0 [] 1 0 nothing ends in
    omega (arith, same)

-- though they are the same formulas under other numbers
abbrev swap : ℕ → ℕ
swap zero = 1
swap (suc zero) = 0
swap (suc (suc n)) = suc (suc n)

moved : {a b : Node} → Some a ≡ Some b → Some (renamed swap a) ≡ Some (renamed swap b)
moved h = cc

renames : (n : ℕ) (a : Node) → slice_get (nodes_to (pos 4)) n ≡ Some a → slice_get swapped_nodes (swap n) ≡ Some (renamed swap a)
renames zero a at = moved at
renames (suc zero) a at = moved at
renames (suc (suc zero)) a at = moved at
renames (suc (suc (suc zero))) a at = moved at
renames (suc (suc (suc (suc zero)))) a at = moved at
renames (suc (suc (suc (suc (suc zero))))) a at = moved at
renames (suc (suc (suc (suc (suc (suc zero)))))) a at = moved at
renames (suc (suc (suc (suc (suc (suc (suc n))))))) a at = absurd (none-some _ at)

pub is_renaming : (world : World) → IsRenaming swap (at_most world (pos 4)) (swapped world)
is_renaming world = record { nodes = renames; hypotheses = refl; goal = refl }

-- x + 1 is x and 1 more, 3 has no base, and x <= 3 is itself
pub sum_is_on_x : offset_of (nodes_to (pos 4)) 4 ≡ record { base = Some 0; constant = pos 1 }
unfolding offsets
sum_is_on_x = refl

pub three_has_no_base : offset_of (nodes_to (pos 4)) 1 ≡ record { base = None; constant = pos 3 }
unfolding offsets
three_has_no_base = refl

pub comparison_is_itself : offset_of (nodes_to (pos 4)) 2 ≡ record { base = Some 2; constant = pos 0 }
unfolding offsets
comparison_is_itself = refl
