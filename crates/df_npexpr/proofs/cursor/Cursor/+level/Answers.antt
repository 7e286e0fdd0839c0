use Rattle.std.proofs.Common.{◌≡◌, ◌-◌, ◌∙◌, [], ◌∷◌, ◌++◌, List, ap, map, refl, sym, option_map, Some, None}
use Rattle.std.proofs.lemmas.Result.{err_from_is_err_and}
use Rattle.std.proofs.lemmas.List.{map_push}
use Rattle.df_lemmas.proofs.Options.{none_left}
use Rattle.df_ntree.specs.declared.expr.Level.TheVariants as levels
use Rattle.df_ntree.specs.Expr.{expr_of, operation_of}
use Rattle.df_ntree.specs.mirror.ExprReading.{operations_at, expressions_by, next_arguments, primary_by, expr_at}
use Rattle.df_npexpr.specs.Rest.{rest_of}
use Rattle.df_npexpr.specs.Parts.{part_of, parts_of, found_of}
use Rattle.df_npexpr.proofs.Loop.{fails, goes_on, is_done, seen, expressions_start, no_expressions, no_primary, calls_begin, calls_fail, call_fails, calls_go_on, calls_are_done}
use Rattle.df_npexpr.proofs.Readers.{level_is, cast_level, unary_level, primary_level, no_room, operand_of, row_step, row_shrinks, row_begins, part_step, part_shrinks, call_shrinks}
use Rattle.df_npexpr.proofs.cursor.Cursor.+level.Goals as goal

-- ---- levels

pub level-returns-then-room-eq0 : goal.level-returns-then-room-eq0
level-returns-then-room-eq0 t c = rw (no_room c.args.room c.args.level (rest_of c.args.self.now) c.if-room-eq0.true, c.syntax.ensures) (refl, refl, refl)

pub level-returns-in-Primary : goal.level-returns-in-Primary
level-returns-in-Primary t c = rw (sym (primary_level c.args.room c.args.level (rest_of c.args.self.now) c.if-room-eq0.false c.in-Primary.is)) c.primary.ensures

pub level-returns-in-Unary : goal.level-returns-in-Unary
level-returns-in-Unary t c = rw (sym (unary_level c.args.room c.args.level (rest_of c.args.self.now) c.if-room-eq0.false c.in-Unary.is)) c.unary.ensures

pub level-returns-in-Cast : goal.level-returns-in-Cast
level-returns-in-Cast t c = rw (sym (cast_level c.args.room c.args.level (rest_of c.args.self.now) c.if-room-eq0.false c.in-Cast.is)) c.cast.ensures

pub level-returns-in_default : goal.level-returns-in_default
level-returns-in_default t c = rw (sym (level_is c.args.room c.args.level (rest_of c.args.self.now) c.if-room-eq0.false c.in_default.not-Primary c.in_default.not-Unary c.in_default.not-Cast)) c.row.ensures

-- ---- rows

pub operations-loop-operations-init : goal.operations-loop-operations-init
operations-loop-operations-init t c =
    row_begins c.args.group (operand_of c.args.room c.args.level) c.args.height c.new-operations.result.items (rest_of c.args.self.now) c.new-operations.ensures.items

pub operations-returns-in_err-found : goal.operations-returns-in_err-found
operations-returns-in_err-found t c =
    let p = err_from_is_err_and c.from_residual.result c.from_residual.ensures.1 in
    rw (p.1, p.2)
    (fails c.in_err-found.field-0.0 (row_step c.args.group c.args.room c.args.level) (row_shrinks c.args.group c.args.room c.args.level) (map operation_of c.loop-operations.operations.items) c.loop-operations.height (rest_of c.loop-operations.self)
    (operations_at c.args.group (operand_of c.args.room c.args.level) c.args.height (rest_of c.args.self.now)) c.in_err-found.ensures c.loop-operations.invariant)

pub operations-loop-operations-smaller : goal.operations-loop-operations-smaller
operations-loop-operations-smaller t c =
    let e = seen (row_step c.args.group c.args.room c.args.level (rest_of c.loop-operations.self)) (option_map found_of c.in_ok-found.field-0) (Some (found_of c.in-Some.found)) (rest_of c.next_operation.new.self) c.in_ok-found.ensures (ap (option_map found_of) c.in-Some.is) in
    (row_shrinks c.args.group c.args.room c.args.level).falls (rest_of c.loop-operations.self) (rest_of c.next_operation.new.self) (found_of c.in-Some.found) e

pub operations-loop-operations-preserved : goal.operations-loop-operations-preserved
operations-loop-operations-preserved t c =
    let e = seen (row_step c.args.group c.args.room c.args.level (rest_of c.loop-operations.self)) (option_map found_of c.in_ok-found.field-0) (Some (found_of c.in-Some.found)) (rest_of c.next_operation.new.self) c.in_ok-found.ensures (ap (option_map found_of) c.in-Some.is) in
    rw (c.in_ok-push.ensures.items, map_push operation_of c.loop-operations.operations.items c.in-Some.found.operation, c.larger-height.ensures)
    (goes_on (row_step c.args.group c.args.room c.args.level) (row_shrinks c.args.group c.args.room c.args.level) (map operation_of c.loop-operations.operations.items) c.loop-operations.height (rest_of c.loop-operations.self) (rest_of c.next_operation.new.self) (found_of c.in-Some.found)
    (operations_at c.args.group (operand_of c.args.room c.args.level) c.args.height (rest_of c.args.self.now)) e c.loop-operations.invariant)

pub operations-returns : goal.operations-returns
operations-returns t c =
    let e = seen (row_step c.args.group c.args.room c.args.level (rest_of c.loop-operations.self)) (option_map found_of c.in_ok-found.field-0) None (rest_of c.next_operation.new.self) c.in_ok-found.ensures (ap (option_map found_of) (none_left c.in_ok-found.field-0 c.in_default.not-Some)) in
    is_done (row_step c.args.group c.args.room c.args.level) (row_shrinks c.args.group c.args.room c.args.level) (map operation_of c.loop-operations.operations.items) c.loop-operations.height (rest_of c.loop-operations.self) (rest_of c.next_operation.new.self)
    (operations_at c.args.group (operand_of c.args.room c.args.level) c.args.height (rest_of c.args.self.now)) e c.loop-operations.invariant

-- ---- lists of expressions

pub parts-returns-in_err-first : goal.parts-returns-in_err-first
parts-returns-in_err-first t c =
    let p = err_from_is_err_and c.from_residual.result c.from_residual.ensures.1 in
    rw (p.1, p.2) (no_expressions c.in_err-first.field-0.0 (expr_at c.args.room c.args.level) (rest_of c.args.self.now) c.in_err-first.ensures)

pub parts-loop-trees-init : goal.parts-loop-trees-init
parts-loop-trees-init t c =
    let pushed : c.push.new.self.items ≡ c.in_ok-first.first.tree ∷ [] = c.in_ok-push.ensures.items ∙ ap (λ (l : List _). l ++ c.in_ok-first.first.tree ∷ []) c.new-trees.ensures.items in
    expressions_start (expr_at c.args.room c.args.level) (part_of c.in_ok-first.first) (map expr_of c.push.new.self.items) (rest_of c.args.self.now) (rest_of c.level.new.self) c.in_ok-first.ensures (ap (map expr_of) pushed)

pub parts-returns-in_err-part : goal.parts-returns-in_err-part
parts-returns-in_err-part t c =
    let p = err_from_is_err_and c.from_residual-in_err-part.result c.from_residual-in_err-part.ensures.1 in
    rw (p.1, p.2)
    (fails c.in_err-part.field-0.0 (part_step c.args.room c.args.level) (part_shrinks c.args.room c.args.level) (map expr_of c.loop-trees.trees.items) c.loop-trees.height (rest_of c.loop-trees.self)
    (expressions_by (expr_at c.args.room c.args.level) (rest_of c.args.self.now)) c.in_err-part.ensures c.loop-trees.invariant)

pub parts-loop-trees-smaller : goal.parts-loop-trees-smaller
parts-loop-trees-smaller t c =
    let e = seen (part_step c.args.room c.args.level (rest_of c.loop-trees.self)) (option_map part_of c.in_ok-part.field-0) (Some (part_of c.in-Some.part)) (rest_of c.next_part.new.self) c.in_ok-part.ensures (ap (option_map part_of) c.in-Some.is) in
    (part_shrinks c.args.room c.args.level).falls (rest_of c.loop-trees.self) (rest_of c.next_part.new.self) (part_of c.in-Some.part) e

pub parts-loop-trees-preserved : goal.parts-loop-trees-preserved
parts-loop-trees-preserved t c =
    let e = seen (part_step c.args.room c.args.level (rest_of c.loop-trees.self)) (option_map part_of c.in_ok-part.field-0) (Some (part_of c.in-Some.part)) (rest_of c.next_part.new.self) c.in_ok-part.ensures (ap (option_map part_of) c.in-Some.is) in
    rw (c.in_ok-push-2.ensures.items, map_push expr_of c.loop-trees.trees.items c.in-Some.part.tree, c.larger-height.ensures)
    (goes_on (part_step c.args.room c.args.level) (part_shrinks c.args.room c.args.level) (map expr_of c.loop-trees.trees.items) c.loop-trees.height (rest_of c.loop-trees.self) (rest_of c.next_part.new.self) (part_of c.in-Some.part)
    (expressions_by (expr_at c.args.room c.args.level) (rest_of c.args.self.now)) e c.loop-trees.invariant)

pub parts-returns : goal.parts-returns
parts-returns t c =
    let e = seen (part_step c.args.room c.args.level (rest_of c.loop-trees.self)) (option_map part_of c.in_ok-part.field-0) None (rest_of c.next_part.new.self) c.in_ok-part.ensures (ap (option_map part_of) (none_left c.in_ok-part.field-0 c.in_default.not-Some)) in
    is_done (part_step c.args.room c.args.level) (part_shrinks c.args.room c.args.level) (map expr_of c.loop-trees.trees.items) c.loop-trees.height (rest_of c.loop-trees.self) (rest_of c.next_part.new.self)
    (expressions_by (expr_at c.args.room c.args.level) (rest_of c.args.self.now)) e c.loop-trees.invariant

-- ---- calls

pub primary-returns-in_err-part : goal.primary-returns-in_err-part
primary-returns-in_err-part t c =
    let p = err_from_is_err_and c.from_residual.result c.from_residual.ensures.1 in
    rw (p.1, p.2) (no_primary c.in_err-part.field-0.0 c.args.room (expr_at (c.args.room - 1) levels.Equivalence) (rest_of c.args.self.now) c.in_err-part.ensures)

pub primary-loop-part-init : goal.primary-loop-part-init
primary-loop-part-init t c = calls_begin c.args.room (expr_at (c.args.room - 1) levels.Equivalence) (part_of c.in_ok-part.part) (rest_of c.args.self.now) (rest_of c.atom.new.self) c.in_ok-part.ensures

pub primary-returns-in_err-arguments : goal.primary-returns-in_err-arguments
primary-returns-in_err-arguments t c =
    let p = err_from_is_err_and c.from_residual-in_err-arguments.result c.from_residual-in_err-arguments.ensures.1 in
    rw (p.1, p.2)
    (calls_fail c.in_err-arguments.field-0.0 c.args.room (next_arguments (expr_at (c.args.room - 1) levels.Equivalence)) (call_shrinks (c.args.room - 1)) (part_of c.loop-part.part) (rest_of c.loop-part.self)
    (primary_by c.args.room (expr_at (c.args.room - 1) levels.Equivalence) (rest_of c.args.self.now)) c.in_err-arguments.ensures c.loop-part.invariant)

pub primary-returns-in_err-part-2 : goal.primary-returns-in_err-part-2
primary-returns-in_err-part-2 t c =
    let p = err_from_is_err_and c.from_residual-in_err-part-2.result c.from_residual-in_err-part-2.ensures.1 in
    let e = seen (next_arguments (expr_at (c.args.room - 1) levels.Equivalence) (rest_of c.loop-part.self)) (option_map parts_of c.in_ok-arguments.field-0) (Some (parts_of c.in-Some.arguments)) (rest_of c.next_arguments.new.self) c.in_ok-arguments.ensures (ap (option_map parts_of) c.in-Some.is) in
    rw (p.1, p.2)
    (call_fails c.in_err-part-2.field-0.0 c.args.room (next_arguments (expr_at (c.args.room - 1) levels.Equivalence)) (call_shrinks (c.args.room - 1)) (part_of c.loop-part.part) (parts_of c.in-Some.arguments) (rest_of c.loop-part.self) (rest_of c.next_arguments.new.self)
    (primary_by c.args.room (expr_at (c.args.room - 1) levels.Equivalence) (rest_of c.args.self.now)) e c.in_err-part-2.ensures c.loop-part.invariant)

pub primary-loop-part-smaller : goal.primary-loop-part-smaller
primary-loop-part-smaller t c =
    let e = seen (next_arguments (expr_at (c.args.room - 1) levels.Equivalence) (rest_of c.loop-part.self)) (option_map parts_of c.in_ok-arguments.field-0) (Some (parts_of c.in-Some.arguments)) (rest_of c.next_arguments.new.self) c.in_ok-arguments.ensures (ap (option_map parts_of) c.in-Some.is) in
    (call_shrinks (c.args.room - 1)).falls (rest_of c.loop-part.self) (rest_of c.next_arguments.new.self) (parts_of c.in-Some.arguments) e

pub primary-loop-part-preserved : goal.primary-loop-part-preserved
primary-loop-part-preserved t c =
    let e = seen (next_arguments (expr_at (c.args.room - 1) levels.Equivalence) (rest_of c.loop-part.self)) (option_map parts_of c.in_ok-arguments.field-0) (Some (parts_of c.in-Some.arguments)) (rest_of c.next_arguments.new.self) c.in_ok-arguments.ensures (ap (option_map parts_of) c.in-Some.is) in
    calls_go_on c.args.room (next_arguments (expr_at (c.args.room - 1) levels.Equivalence)) (call_shrinks (c.args.room - 1)) (part_of c.loop-part.part) (part_of c.in_ok-part-2.part) (parts_of c.in-Some.arguments) (rest_of c.loop-part.self) (rest_of c.next_arguments.new.self)
    (primary_by c.args.room (expr_at (c.args.room - 1) levels.Equivalence) (rest_of c.args.self.now)) e c.in_ok-part-2.ensures c.loop-part.invariant

pub primary-returns : goal.primary-returns
primary-returns t c =
    let e = seen (next_arguments (expr_at (c.args.room - 1) levels.Equivalence) (rest_of c.loop-part.self)) (option_map parts_of c.in_ok-arguments.field-0) None (rest_of c.next_arguments.new.self) c.in_ok-arguments.ensures (ap (option_map parts_of) (none_left c.in_ok-arguments.field-0 c.in_default.not-Some)) in
    calls_are_done c.args.room (next_arguments (expr_at (c.args.room - 1) levels.Equivalence)) (call_shrinks (c.args.room - 1)) (part_of c.loop-part.part) (rest_of c.loop-part.self) (rest_of c.next_arguments.new.self)
    (primary_by c.args.room (expr_at (c.args.room - 1) levels.Equivalence) (rest_of c.args.self.now)) e c.loop-part.invariant
