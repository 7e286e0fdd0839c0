-- Nodes that grow at their end.
use Rattle.std.specs.Prelude.{◌≡◌, ◌<◌, ℕ, List, length, take}
use Rattle.df_form.specs.declared.node.Sort.TheVariants as sorts
use Rattle.df_form.specs.Node.{Node}
use Rattle.df_form.specs.Sorting.{sort_at}

-- the old nodes are the first of the new ones
abbrev pub Grows : List Node → List Node → Type 0
Grows old new = take (length old) new ≡ old

-- the number names a number
abbrev pub IsNumber : List Node → ℕ → Type 0
IsNumber nodes n = (n < length nodes) × (sort_at nodes n ≡ sorts.Number)
