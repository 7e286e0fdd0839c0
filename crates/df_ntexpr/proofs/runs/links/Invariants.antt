use Rattle.std.proofs.Common.{◌≡◌, ◌++◌, map, length}
use Rattle.std.specs.Vec.Iter.{into_iter_items, into_iter_len}
use Rattle.df_ntexpr.specs.TypedViews.{link_of}
use Rattle.df_ntexpr.proofs.Turning.{link_from}
use Rattle.df_ntexpr.proofs.runs.links.Given as goal

-- those so far, and those of the parts that are left, are those of all
abbrev pub invariant-loop-part : goal.invariant-loop-part
invariant-loop-part l =
    (map link_of l.links.items ++ map link_from (into_iter_items l.part-iterator) ≡ map link_from (into_iter_items l.initial.part-iterator))
    × (into_iter_len l.part-iterator ≡ length (into_iter_items l.part-iterator))
