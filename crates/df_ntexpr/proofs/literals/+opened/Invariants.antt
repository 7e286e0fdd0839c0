use Rattle.std.proofs.Common.{◌≡◌, ◌++◌, map, drop}
use Rattle.df_ntree.specs.Expr.{operation_of, members_of}
use Rattle.df_ntexpr.specs.Parts.{part_of}
use Rattle.df_ntyping.specs.mirror.Literals.{opened_parts}
use Rattle.df_ntexpr.proofs.literals.+opened.Given as goal

-- the parts so far, and those of the operations that are left, are those of all
abbrev pub invariant-opened_parts-loop-operation : goal.invariant-opened_parts-loop-operation
invariant-opened_parts-loop-operation l =
    map part_of l.parts.items ++ opened_parts l.ty (members_of (map operation_of (drop l.operation-index l.rest))) ≡ opened_parts l.fn.ty (members_of (map operation_of l.fn.rest))
