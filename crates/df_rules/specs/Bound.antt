-- Comparisons of a node with a number: a line that needs one makes it where it does not stand yet.
use Rattle.std.specs.Prelude.{ℕ, ℤ, List, [], ◌∷◌}
use Rattle.df_form.specs.declared.node.Op.TheVariants as ops
use Rattle.df_form.specs.Node.{Node}
use Rattle.df_form.specs.Made.{Made, made}

abbrev pub number : ℤ → Node
number k = record { op = ops.Number k; parts = [] }

abbrev pub at_most : ℕ → ℕ → Node
at_most left right = record { op = ops.AtMost; parts = left ∷ right ∷ [] }

-- k <= n
abbrev pub made_at_least : List Node → ℤ → ℕ → Made
made_at_least nodes k n = let low = made nodes (number k) in made low.nodes (at_most low.number n)

-- n <= k
abbrev pub made_at_most : List Node → ℕ → ℤ → Made
made_at_most nodes n k = let high = made nodes (number k) in made high.nodes (at_most n high.number)
