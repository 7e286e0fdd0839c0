-- The lines of a log that add what connectives mean.
use Rattle.std.specs.Prelude.{ℕ, ◌+◌, List, [], ◌∷◌, map, length, slice_get, Option, None, Some}
use Rattle.std.specs.Option.{option_map_or, option_and_then}
use Rattle.std.specs.List.{range_with_len}
use Rattle.df_form.specs.declared.node.Sort.{Sort}
use Rattle.df_form.specs.declared.node.Sort.TheVariants as sorts
use Rattle.df_form.specs.declared.node.Op.{Op}
use Rattle.df_form.specs.declared.node.Op.TheVariants as ops
use Rattle.df_form.specs.Node.{Node}
use Rattle.df_form.specs.Sorting.{sort_at}
use Rattle.df_form.specs.Log.{Step, Connective}

abbrev pub sides_count : Sort → ℕ
sides_count sorts.Number = 3
sides_count sorts.Truth = 0
sides_count sorts.Character = 0

-- an equality of numbers counts as the `and` of two comparisons, and one of characters is no connective
abbrev pub equality_count : List Node → List ℕ → ℕ
equality_count nodes [] = 0
equality_count nodes (a ∷ others) = sides_count (sort_at nodes a)

-- how many defining clauses a connective has
abbrev pub connective_count : List Node → Op → List ℕ → ℕ
connective_count nodes ops.Not parts = 2
connective_count nodes ops.And parts = length parts + 1
connective_count nodes ops.Or parts = length parts + 1
connective_count nodes ops.Implies parts = 3
connective_count nodes ops.Iff parts = 4
connective_count nodes ops.Equal parts = equality_count nodes parts
connective_count nodes op parts = 0

abbrev pub connective_lines : List Node → ℕ → Node → List Step
connective_lines nodes n node = map (λ k. Connective n k) (range_with_len 0 (connective_count nodes node.op node.parts))

-- those of the node of a number
abbrev pub lines_at : List Node → ℕ → List Step
lines_at nodes n = option_map_or (connective_lines nodes n) (slice_get nodes n) []

abbrev pub bound_by : ℕ → Op → Option ℕ
bound_by n ops.Equal = Some n
bound_by n op = None

-- the equality to which a line's clause is bound
abbrev pub bound_of : List Node → Step → Option ℕ
bound_of nodes (Connective n k) = option_and_then (λ (node : Node). bound_by n node.op) (slice_get nodes n)
bound_of nodes step = None
