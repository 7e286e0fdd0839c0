-- Nodes that are made where they do not stand yet.
use Rattle.std.specs.Prelude.{ℕ, List, [], ◌∷◌, ◌++◌, length, Option, None, Some}
use Rattle.df_form.specs.Node.{Node, number_of}

-- the nodes, and the number of the one that was asked for
pub record Made : Type 0 where
  pub nodes : List Node
  pub number : ℕ

abbrev pub made_where : List Node → Node → Option ℕ → Made
made_where nodes node (Some n) = record { nodes = nodes; number = n }
made_where nodes node None = record { nodes = nodes ++ node ∷ []; number = length nodes }

-- the nodes with this one at its number, which is last where it is new
abbrev pub made : List Node → Node → Made
made nodes node = made_where nodes node (number_of nodes node)
