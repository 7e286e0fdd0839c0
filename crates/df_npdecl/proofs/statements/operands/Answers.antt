use Rattle.std.proofs.Common.{◌≡◌, ◌∙◌, ap, map, option_map, Some, None, List, ◌∷◌, ◌++◌, []}
use Rattle.std.proofs.lemmas.Result.{err_from_is_err_and}
use Rattle.std.proofs.lemmas.List.{map_push}
use Rattle.df_lemmas.proofs.Options.{none_left}
use Rattle.df_ntree.specs.File.{operand_of}
use Rattle.df_ntree.specs.mirror.Reading.{next_by, one_or_more}
use Rattle.df_ntree.specs.mirror.FileReading.{operand_at}
use Rattle.df_ntree.proofs.Repeat.{goes_on, is_done}
use Rattle.df_npexpr.specs.Rest.{rest_of}
use Rattle.df_npexpr.proofs.Loop.{list_fails, seen}
use Rattle.df_npdecl.proofs.Rows.{operand_shrinks, row_starts}
use Rattle.df_npdecl.proofs.statements.operands.Goals as goal

pub returns-in_err-operand-2 : goal.returns-in_err-operand-2
returns-in_err-operand-2 c =
    let p = err_from_is_err_and c.from_residual-in_err-operand-2.result c.from_residual-in_err-operand-2.ensures.1 in
    rw (p.1, p.2) (list_fails c.in_err-operand-2.field-0.0 (next_by (operand_at c.args.room)) (operand_shrinks c.args.room) (map operand_of c.loop-operands.operands.items) (rest_of c.loop-operands.cursor) (one_or_more (operand_at c.args.room) (rest_of c.args.cursor.now)) c.in_err-operand-2.ensures c.loop-operands.invariant)

pub loop-operands-smaller : goal.loop-operands-smaller
loop-operands-smaller c =
    let e = seen (next_by (operand_at c.args.room) (rest_of c.loop-operands.cursor)) (option_map operand_of c.in_ok-operand-2.field-0) (Some (operand_of c.in-Some.operand)) (rest_of c.next_operand.new.cursor) c.in_ok-operand-2.ensures (ap (option_map operand_of) c.in-Some.is) in
    (operand_shrinks c.args.room).falls (rest_of c.loop-operands.cursor) (rest_of c.next_operand.new.cursor) (operand_of c.in-Some.operand) e

pub loop-operands-preserved : goal.loop-operands-preserved
loop-operands-preserved c =
    let e = seen (next_by (operand_at c.args.room) (rest_of c.loop-operands.cursor)) (option_map operand_of c.in_ok-operand-2.field-0) (Some (operand_of c.in-Some.operand)) (rest_of c.next_operand.new.cursor) c.in_ok-operand-2.ensures (ap (option_map operand_of) c.in-Some.is) in
    rw (c.in_ok-push-2.ensures.items, map_push operand_of c.loop-operands.operands.items c.in-Some.operand) (goes_on (next_by (operand_at c.args.room)) (operand_shrinks c.args.room) (map operand_of c.loop-operands.operands.items) (rest_of c.loop-operands.cursor) (rest_of c.next_operand.new.cursor) (operand_of c.in-Some.operand) (one_or_more (operand_at c.args.room) (rest_of c.args.cursor.now)) e c.loop-operands.invariant)

pub returns : goal.returns
returns c =
    let e = seen (next_by (operand_at c.args.room) (rest_of c.loop-operands.cursor)) (option_map operand_of c.in_ok-operand-2.field-0) None (rest_of c.next_operand.new.cursor) c.in_ok-operand-2.ensures (ap (option_map operand_of) (none_left c.in_ok-operand-2.field-0 c.in_default.not-Some)) in
    is_done (next_by (operand_at c.args.room)) (operand_shrinks c.args.room) (map operand_of c.loop-operands.operands.items) (rest_of c.loop-operands.cursor) (rest_of c.next_operand.new.cursor) (one_or_more (operand_at c.args.room) (rest_of c.args.cursor.now)) e c.loop-operands.invariant

pub loop-operands-init : goal.loop-operands-init
loop-operands-init c =
    let pushed : c.push.new.self.items ≡ c.in_ok-operand.field-0 ∷ [] = c.in_ok-push.ensures.items ∙ ap (λ (l : List _). l ++ c.in_ok-operand.field-0 ∷ []) c.new-operands.ensures.items in
    row_starts (operand_at c.args.room) (operand_of c.in_ok-operand.field-0) (map operand_of c.push.new.self.items) (rest_of c.args.cursor.now) (rest_of c.operand.new.cursor) c.in_ok-operand.ensures (ap (map operand_of) pushed)
