-- The stack of a draft: an operation takes its parts from the end.
use Rattle.std.specs.Prelude.{ℕ, ◌-◌, List, length, take, drop}
use Rattle.df_form.specs.declared.node.Op.{Op}
use Rattle.df_form.specs.Node.{Node}

-- so many terms from the end, in order
abbrev pub last_terms : ℕ → List ℕ → List ℕ
last_terms count stack = drop (length stack - count) stack

-- and those before them
abbrev pub other_terms : ℕ → List ℕ → List ℕ
other_terms count stack = take (length stack - count) stack

-- the operation on so many terms from the end
abbrev pub node_on : Op → ℕ → List ℕ → Node
node_on op count stack = record { op = op; parts = last_terms count stack }
