use Rattle.std.proofs.Common.{◌≡◌, ◌++◌, map, length}
use Rattle.std.specs.Vec.Iter.{into_iter_items, into_iter_len}
use Rattle.df_lang.specs.StmtView.{measure_of}
use Rattle.df_ntstmt.proofs.clauses.joined.Given as goal

-- those so far, and those that are left, are all
abbrev pub invariant-loop-measure : goal.invariant-loop-measure
invariant-loop-measure l =
    (map measure_of l.all.items ++ map measure_of (into_iter_items l.measure-iterator) ≡ map measure_of l.initial.all.items ++ map measure_of (into_iter_items l.initial.measure-iterator))
    × (into_iter_len l.measure-iterator ≡ length (into_iter_items l.measure-iterator))
