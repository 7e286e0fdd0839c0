-- Nodes that compare numbers.
use Rattle.std.specs.Prelude.{◌≡◌, ℕ, ◌≤◌, Bool, true, false, List, slice_get, Some}
use Rattle.df_form.specs.declared.node.Op.{Op}
use Rattle.df_form.specs.declared.node.Op.TheVariants as ops
use Rattle.df_form.specs.Node.{Node}

-- a comparison, or a literal number
abbrev pub is_comparing : Op → Bool
is_comparing (ops.Number k) = true
is_comparing ops.AtMost = true
is_comparing op = false

-- the nodes from a number on compare numbers
abbrev pub AreComparing : ℕ → List Node → Type 0
AreComparing count nodes = (n : ℕ) (node : Node) → count ≤ n → slice_get nodes n ≡ Some node → is_comparing node.op ≡ true
