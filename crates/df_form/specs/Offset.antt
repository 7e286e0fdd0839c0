-- Nodes as sums of another node, their base, and a number.
use Rattle.std.specs.Prelude.{ℕ, ℤ, pos, negsuc, ◌+ℤ◌, ◌-◌, ◌^◌, int_le, Bool, ◌&&◌, List, [], ◌∷◌, ◌++◌, length, slice_get, Option, None, Some, if◌then◌else◌}
use Rattle.std.specs.Option.{unwrap_or}
use Rattle.df_form.specs.declared.node.Op.{Op}
use Rattle.df_form.specs.declared.node.Op.TheVariants as ops
use Rattle.df_form.specs.declared.offset.Offset.{Offset}
use Rattle.df_form.specs.Node.{Node}

-- the number has 128 bits
abbrev pub fits : ℤ → Bool
fits z = int_le (negsuc (2 ^ 127 - 1)) z && int_le z (pos (2 ^ 127 - 1))

-- the node itself
abbrev pub itself : ℕ → Offset
itself n = record { base = Some n; constant = pos 0 }

-- a sum, by the bases of its sides: it has that of one where the other has none
abbrev pub on_base : ℕ → Option ℕ → Option ℕ → ℤ → Offset
on_base n base None k = record { base = base; constant = k }
on_base n None (Some base) k = record { base = Some base; constant = k }
on_base n (Some left) (Some right) k = itself n

-- a sum whose constant has no 128 bits is itself
abbrev pub of_sum : ℕ → Offset → Offset → Offset
of_sum n left right = if fits (left.constant +ℤ right.constant) then on_base n left.base right.base (left.constant +ℤ right.constant) else itself n

-- a literal has no base; a sum is by its sides; any other node is itself
abbrev pub of_parts : (ℕ → Offset) → ℕ → Op → List ℕ → Offset
of_parts part n (ops.Number k) parts = record { base = None; constant = k }
of_parts part n ops.Plus (a ∷ b ∷ []) = of_sum n (part a) (part b)
of_parts part n op parts = itself n

-- what is not known yet is itself
abbrev pub offset_at : List Offset → ℕ → Offset
offset_at known n = unwrap_or (slice_get known n) (itself n)

-- what nodes are, each from what its parts are, after the nodes before them
abbrev pub offsets_after : List Offset → List Node → List Offset
offsets_after known [] = known
offsets_after known (node ∷ nodes) = offsets_after (known ++ of_parts (offset_at known) (length known) node.op node.parts ∷ []) nodes

-- what nodes are, in the order of their numbers
unfoldable pub offsets : List Node → List Offset
offsets nodes = offsets_after [] nodes

-- what the node of a number is
abbrev pub offset_of : List Node → ℕ → Offset
offset_of nodes n = offset_at (offsets nodes) n
