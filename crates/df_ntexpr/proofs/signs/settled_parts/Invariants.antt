use Rattle.std.proofs.Common.{◌≡◌, ◌++◌, map, length}
use Rattle.std.specs.Vec.Iter.{into_iter_items, into_iter_len}
use Rattle.df_ntexpr.specs.Parts.{row_of, part_of}
use Rattle.df_ntyping.specs.mirror.Signs.{settled_parts}
use Rattle.df_ntexpr.proofs.signs.settled_parts.Given as goal

-- the parts so far, and those of the rows that are left, are those of all
abbrev pub invariant-loop-row : goal.invariant-loop-row
invariant-loop-row l =
    (map part_of l.parts.items ++ settled_parts l.of (map row_of (into_iter_items l.row-iterator)) ≡ settled_parts l.of (map row_of (into_iter_items l.initial.row-iterator)))
    × (into_iter_len l.row-iterator ≡ length (into_iter_items l.row-iterator))
