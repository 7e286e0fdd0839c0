-- The tests of table models as the code makes them.
use Rattle.std.specs.Prelude.{◌≡◌, ℕ, zero, suc, ℤ, Bool, true, false, not, ◌&&◌, ◌||◌, ◌==◌, List, length, slice_get, slice_index_or, Option, None, Some}
use Rattle.std.specs.List.{list_all}
use Rattle.std.specs.Option.{option_map_or}
use Rattle.std.specs.Ordering.{int_eq}
use Rattle.df_form.specs.declared.log.Pair.{Pair}
use Rattle.df_form.specs.Node.{Node, same_op}
use Rattle.df_form.specs.Clause.{clause_truth}
use Rattle.df_rules.specs.Derivation.{State}
use Rattle.df_table.specs.TableModel.{number_at, is_true, is_exact}

-- each number below n passes
abbrev pub all_below : (ℕ → Bool) → ℕ → Bool
all_below test zero = true
all_below test (suc n) = test n && all_below test n

-- the nodes at one place of two lists have the same number
abbrev pub same_at : List ℤ → List ℕ → List ℕ → ℕ → Bool
same_at table xs ys k = int_eq (number_at table (slice_index_or xs k 0)) (number_at table (slice_index_or ys k 0))

abbrev pub same_numbers : List ℤ → List ℕ → List ℕ → Bool
same_numbers table xs ys = length xs == length ys && all_below (same_at table xs ys) (length xs)

abbrev pub agree_at : List ℤ → ℕ → ℕ → Node → Node → Bool
agree_at table m n a b = int_eq (number_at table m) (number_at table n) || (not (same_op a.op b.op) || not (same_numbers table a.parts b.parts))

abbrev pub agree_with : List ℤ → ℕ → ℕ → Node → Option Node → Bool
agree_with table m n a None = true
agree_with table m n a (Some b) = agree_at table m n a b

abbrev pub agree_both : List ℤ → ℕ → ℕ → Option Node → Option Node → Bool
agree_both table m n None b = true
agree_both table m n (Some a) b = agree_with table m n a b

abbrev pub agree : List Node → List ℤ → ℕ → ℕ → Bool
agree nodes table m n = agree_both table m n (slice_get nodes m) (slice_get nodes n)

abbrev pub exact_at : List Node → List ℤ → ℕ → Bool
exact_at nodes table n = option_map_or (λ (node : Node). is_exact nodes table n node.op node.parts) (slice_get nodes n) true

abbrev pub agrees_with_all : List Node → List ℤ → ℕ → Bool
agrees_with_all nodes table m = all_below (agree nodes table m) (length nodes)

abbrev pub is_congruent : List Node → List ℤ → Bool
is_congruent nodes table = all_below (agrees_with_all nodes table) (length nodes)

abbrev pub are_exact : List Node → List ℤ → Bool
are_exact nodes table = all_below (exact_at nodes table) (length nodes)

abbrev pub meets : State → List ℤ → Bool
meets state table = length table == length state.nodes && (is_congruent state.nodes table && (are_exact state.nodes table && list_all (clause_truth (is_true table)) state.clauses))

-- a node that disagrees with this one, or that none does
abbrev pub FindsOther : List Node → List ℤ → ℕ → Option ℕ → Type 0
FindsOther nodes table m (Some n) = agree nodes table m n ≡ false
FindsOther nodes table m None = agrees_with_all nodes table m ≡ true

abbrev pub FindsTwo : List Node → List ℤ → Option Pair → Type 0
FindsTwo nodes table (Some pair) = agree nodes table pair.left pair.right ≡ false
FindsTwo nodes table None = is_congruent nodes table ≡ true
