-- The clauses of schemas.
use Rattle.std.specs.Prelude.{ℕ, List, [], ◌∷◌, slice_get, Option, None}
use Rattle.std.specs.Option.{option_map, option_and_then}
use Rattle.df_form.specs.World.{World}
use Rattle.df_form.specs.declared.node.Op.{Op}
use Rattle.df_form.specs.Node.{Node}
use Rattle.df_axiom.specs.Instance.{Added, instantiated}
use Rattle.df_axiom.specs.Schemas.{template}

-- the operation of the first term
abbrev pub first_op : List Node → List ℕ → Option Op
first_op nodes [] = None
first_op nodes (n ∷ others) = option_map (λ (node : Node). node.op) (slice_get nodes n)

abbrev pub line_by : World → List Node → ℕ → ℕ → List ℕ → Op → Option Added
line_by world nodes schema k terms op = option_and_then (instantiated nodes terms) (template world op schema k)

-- clause k of a schema for the terms that its pattern matches
abbrev pub instance_line : World → List Node → ℕ → ℕ → List ℕ → Option Added
instance_line world nodes schema k terms = option_and_then (line_by world nodes schema k terms) (first_op nodes terms)
