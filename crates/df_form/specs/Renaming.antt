-- The same formulas under other numbers.
use Rattle.std.specs.Prelude.{◌≡◌, ℕ, map, slice_get, Some}
use Rattle.df_form.specs.Node.{Node}
use Rattle.df_form.specs.Sequent.{Sequent}

-- the node with other numbers for its parts
abbrev pub renamed : (ℕ → ℕ) → Node → Node
renamed f node = record { op = node.op; parts = map f node.parts }

-- each node of the one stands in the other under the number that f gives, and so do the formulas
pub record IsRenaming (f : ℕ → ℕ) (one other : Sequent) : Type 0 where
  pub nodes : (n : ℕ) (node : Node) → slice_get one.nodes n ≡ Some node → slice_get other.nodes (f n) ≡ Some (renamed f node)
  pub hypotheses : other.hypotheses ≡ map f one.hypotheses
  pub goal : other.goal ≡ f one.goal
