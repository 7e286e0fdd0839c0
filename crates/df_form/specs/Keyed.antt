-- Nodes with what they are found by: their operation, and the number of the list of their parts.
use Rattle.std.specs.Prelude.{◌≡◌, ℕ, List, map, Some, slice_get}
use Rattle.df_form.specs.declared.key.Key.{Key}
use Rattle.df_form.specs.declared.node.Node as declared
use Rattle.df_form.specs.Node.{Node, node_of}

abbrev pub node_in : Key × declared.Node → Node
node_in entry = node_of entry.1

-- the nodes in the order of their numbers
abbrev pub nodes_in : List (Key × declared.Node) → List Node
nodes_in entries = map node_in entries

-- each node has the key of its operation and of its parts, and no two are equal
pub record AreKeyed (entries : List (Key × declared.Node)) (lists : List (List ℕ)) : Type 0 where
  pub op : (n : ℕ) (entry : Key × declared.Node) → slice_get entries n ≡ Some entry → entry.0.op ≡ entry.1.op
  pub parts : (n : ℕ) (entry : Key × declared.Node) → slice_get entries n ≡ Some entry → slice_get lists entry.0.list ≡ Some entry.1.parts.items
  pub distinct : (m n : ℕ) (node : Node) → slice_get (nodes_in entries) m ≡ Some node → slice_get (nodes_in entries) n ≡ Some node → m ≡ n
