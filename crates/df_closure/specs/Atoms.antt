-- Nodes that rows have coefficients for.
use Rattle.std.specs.Prelude.{◌≡◌, ℕ, ℤ, Bool, true, false, List, [], ◌∷◌, slice_get, Some}
use Rattle.std.specs.Option.{is_none}
use Rattle.df_form.specs.declared.node.Op.{Op}
use Rattle.df_form.specs.declared.node.Op.TheVariants as ops
use Rattle.df_form.specs.declared.node.Sort.TheVariants as sorts
use Rattle.df_form.specs.Node.{Node}
use Rattle.df_form.specs.Sorting.{sort_at}
use Rattle.df_row.specs.Row.{literal_number}

-- The operation on these parts is an atom: no literal, no sum, and no literal times a node.
abbrev pub is_atom : List Node → Op → List ℕ → Bool
is_atom nodes (ops.Number k) parts = false
is_atom nodes ops.Plus (a ∷ b ∷ []) = false
is_atom nodes ops.Times (a ∷ b ∷ []) = is_none (literal_number (slice_get nodes a))
is_atom nodes op parts = true

-- the atoms have the same numbers
abbrev pub AreAlike : List Node → (ℕ → ℤ) → (ℕ → ℤ) → Type 0
AreAlike nodes x y = (n : ℕ) (node : Node) → slice_get nodes n ≡ Some node → is_atom nodes node.op node.parts ≡ true → x n ≡ y n

-- those of them have that are numbers
abbrev pub AreAlikeNumbers : List Node → (ℕ → ℤ) → (ℕ → ℤ) → Type 0
AreAlikeNumbers nodes x y = (n : ℕ) (node : Node) → slice_get nodes n ≡ Some node → is_atom nodes node.op node.parts ≡ true → sort_at nodes n ≡ sorts.Number → x n ≡ y n
