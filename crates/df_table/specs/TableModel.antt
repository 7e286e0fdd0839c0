-- Table models. A table has a whole number for each node of a ground set. It is a model where no clause
-- and no operation that is looked into tells it from a counterexample.
use Rattle.std.specs.Prelude.{◌≡◌, ℕ, ℤ, pos, ◌+ℤ◌, ◌*ℤ◌, int_le, ◌<◌, Bool, true, List, [], ◌∷◌, map, length, slice_get, slice_index_or, Option, None, Some}
use Rattle.std.specs.List.{list_all}
use Rattle.std.specs.Ordering.{int_eq}
use Rattle.df_form.specs.declared.node.Op.{Op}
use Rattle.df_form.specs.declared.node.Op.TheVariants as ops
use Rattle.df_form.specs.Node.{Node}
use Rattle.df_meaning.specs.Value.{same_truth}
use Rattle.df_form.specs.Clause.{clause_truth}
use Rattle.df_row.specs.Row.{literal_number}
use Rattle.df_rules.specs.Derivation.{State}

-- the number of a node
abbrev pub number_at : List ℤ → ℕ → ℤ
number_at table n = slice_index_or table n (pos 0)

-- a formula is true where its number is at least 1
abbrev pub is_true : List ℤ → ℕ → Bool
is_true table n = int_le (pos 1) (number_at table n)

-- so many times a number, where the factor is a literal; other products are not looked into
abbrev pub is_multiple : Option ℤ → ℤ → ℤ → Bool
is_multiple None x product = true
is_multiple (Some k) x product = int_eq (k *ℤ x) product

-- Literals, sums and constant multiples are exact, and comparisons are true just where the numbers compare so.
abbrev pub is_exact : List Node → List ℤ → ℕ → Op → List ℕ → Bool
is_exact nodes table n (ops.Number k) parts = int_eq k (number_at table n)
is_exact nodes table n ops.Plus (a ∷ b ∷ []) = int_eq (number_at table a +ℤ number_at table b) (number_at table n)
is_exact nodes table n ops.Times (a ∷ b ∷ []) = is_multiple (literal_number (slice_get nodes a)) (number_at table b) (number_at table n)
is_exact nodes table n ops.Equal (a ∷ b ∷ []) = same_truth (is_true table n) (int_eq (number_at table a) (number_at table b))
is_exact nodes table n ops.AtMost (a ∷ b ∷ []) = same_truth (is_true table n) (int_le (number_at table a) (number_at table b))
is_exact nodes table n op parts = true

-- two nodes of one operation whose arguments have equal numbers have equal numbers
abbrev pub Agree : List Node → List ℤ → ℕ → ℕ → Type 0
Agree nodes table m n = (a b : Node) → slice_get nodes m ≡ Some a → slice_get nodes n ≡ Some b → a.op ≡ b.op → map (number_at table) a.parts ≡ map (number_at table) b.parts → number_at table m ≡ number_at table n

-- The clauses are those of a ground set, where the negated goal is among them: so the goal is false.
pub record IsTableModel (state : State) (table : List ℤ) : Type 0 where
  -- each node has a number
  pub covers : length table ≡ length state.nodes
  pub congruent : (m n : ℕ) → m < length state.nodes → n < length state.nodes → Agree state.nodes table m n
  pub exact : (n : ℕ) (node : Node) → slice_get state.nodes n ≡ Some node → is_exact state.nodes table n node.op node.parts ≡ true
  pub clauses : list_all (clause_truth (is_true table)) state.clauses ≡ true
