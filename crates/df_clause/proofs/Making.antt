-- Nodes that are made come last.
use Rattle.std.proofs.Common.{◌≡◌, ℕ, ◌≤◌, ◌⊎◌, inl, inr, true, List, length, Option, Some, None, slice_get, subst}
use Rattle.df_lemmas.proofs.Lists.{get_pushed}
use Rattle.df_form.specs.Node.{Node, number_of}
use Rattle.df_form.specs.Made.{made, made_where}
use Rattle.df_form.proofs.Values.{Grows, grows_not, grows_by}
use Rattle.df_clause.specs.Comparing.{is_comparing, AreComparing}

-- the old nodes come first
pub made_grows : (nodes : List Node) (node : Node) → Grows nodes (made nodes node).nodes
made_grows nodes node = by (number_of nodes node)
  where
    by : (found : Option ℕ) → Grows nodes (made_where nodes node found).nodes
    by None = grows_by nodes node
    by (Some n) = grows_not nodes

-- with a comparison the later nodes are comparisons still
pub made_comparing : (count : ℕ) (nodes : List Node) (node : Node) → is_comparing node.op ≡ true → AreComparing count nodes → AreComparing count (made nodes node).nodes
made_comparing count nodes node comparing all = by (number_of nodes node)
  where
    pushed : (n : ℕ) (other : Node) → count ≤ n → (slice_get nodes n ≡ Some other) ⊎ ((n ≡ length nodes) × (node ≡ other)) → is_comparing other.op ≡ true
    pushed n other le (inl at) = all n other le at
    pushed n other le (inr last) = subst (λ (x : Node). is_comparing x.op ≡ true) last.1 comparing

    by : (found : Option ℕ) → AreComparing count (made_where nodes node found).nodes
    by None n other le at = pushed n other le (get_pushed nodes node n other at)
    by (Some m) n other le at = all n other le at
