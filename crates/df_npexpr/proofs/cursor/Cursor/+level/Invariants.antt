use Rattle.std.proofs.Common.{◌≡◌, ◌+◌, ◌*◌, ◌-◌, length, map}
use Rattle.df_ntree.specs.declared.expr.Level.TheVariants as levels
use Rattle.df_ntree.specs.Operator.{tighter}
use Rattle.df_ntree.specs.Expr.{expr_of, operation_of}
use Rattle.df_ntree.specs.mirror.Reading.{all_of, next_by}
use Rattle.df_ntree.specs.mirror.ExprReading.{next_operation, gathered, operations_at, called, next_arguments, primary_by, expressions_by, expr_at}
use Rattle.df_npexpr.specs.Rest.{rest_of}
use Rattle.df_npexpr.specs.Parts.{part_of}
use Rattle.df_npexpr.proofs.Measure.{measure}
use Rattle.df_npexpr.proofs.cursor.Cursor.+level.Given as goal

abbrev pub decreases-level : goal.decreases-level
decreases-level l = measure l.room l.level 9

abbrev pub decreases-row : goal.decreases-row
decreases-row l = measure l.room l.level 8

abbrev pub decreases-operations : goal.decreases-operations
decreases-operations l = measure l.room l.level 7

abbrev pub decreases-next_operation : goal.decreases-next_operation
decreases-next_operation l = measure l.room l.level 6

abbrev pub decreases-cast : goal.decreases-cast
decreases-cast l = l.room * 200 + 28

abbrev pub decreases-unary : goal.decreases-unary
decreases-unary l = l.room * 200 + 18

abbrev pub decreases-primary : goal.decreases-primary
decreases-primary l = l.room * 200 + 8

abbrev pub decreases-atom : goal.decreases-atom
decreases-atom l = l.room * 200 + 7

abbrev pub decreases-parentheses : goal.decreases-parentheses
decreases-parentheses l = l.room * 200 + 6

abbrev pub decreases-next_arguments : goal.decreases-next_arguments
decreases-next_arguments l = l.room * 200 + 7

abbrev pub decreases-arguments : goal.decreases-arguments
decreases-arguments l = l.room * 200 + 110

abbrev pub decreases-parts : goal.decreases-parts
decreases-parts l = measure l.room l.level 20

abbrev pub decreases-next_part : goal.decreases-next_part
decreases-next_part l = measure l.room l.level 15

abbrev pub invariant-operations-loop-operations : goal.invariant-operations-loop-operations
invariant-operations-loop-operations l =
    gathered (map operation_of l.operations.items) l.height (all_of (next_operation l.group (expr_at l.room (tighter l.level))) (rest_of l.self))
    ≡ operations_at l.fn.group (expr_at l.fn.room (tighter l.fn.level)) l.fn.height (rest_of l.fn.self)

abbrev pub decreases-operations-loop-operations : goal.decreases-operations-loop-operations
decreases-operations-loop-operations l = length (rest_of l.self)

abbrev pub invariant-primary-loop-part : goal.invariant-primary-loop-part
invariant-primary-loop-part l = called l.fn.room (part_of l.part) (all_of (next_arguments (expr_at (l.fn.room - 1) levels.Equivalence)) (rest_of l.self)) ≡ primary_by l.fn.room (expr_at (l.fn.room - 1) levels.Equivalence) (rest_of l.fn.self)

abbrev pub decreases-primary-loop-part : goal.decreases-primary-loop-part
decreases-primary-loop-part l = length (rest_of l.self)

abbrev pub invariant-parts-loop-trees : goal.invariant-parts-loop-trees
invariant-parts-loop-trees l = gathered (map expr_of l.trees.items) l.height (all_of (next_by (expr_at l.fn.room l.fn.level)) (rest_of l.self)) ≡ expressions_by (expr_at l.fn.room l.fn.level) (rest_of l.fn.self)

abbrev pub decreases-parts-loop-trees : goal.decreases-parts-loop-trees
decreases-parts-loop-trees l = length (rest_of l.self)
