use Rattle.std.proofs.Common.{◌≡◌, map, length, reverse}
use Rattle.std.specs.Vec.Iter.{into_iter_items, into_iter_len}
use Rattle.df_lang.specs.Expr as pure
use Rattle.df_lang.specs.ExprView as typed
use Rattle.df_ntyping.specs.ExprElaboration.{turned}
use Rattle.df_ntexpr.specs.Parts.{part_of}
use Rattle.df_ntexpr.specs.TypedViews.{member_of}
use Rattle.df_ntexpr.proofs.runs.turned.Given as goal

-- what the operations so far come to with the parts that are left
abbrev pub invariant-loop-part : goal.invariant-loop-part
invariant-loop-part l =
    (turned (typed.expr_of l.first) (typed.members_of (reverse (map member_of l.rest.items))) (map part_of (into_iter_items l.part-iterator))
    ≡ turned (typed.expr_of l.fn.first) pure.no_member (map part_of (into_iter_items l.initial.part-iterator)))
    × (into_iter_len l.part-iterator ≡ length (into_iter_items l.part-iterator))
