use Rattle.std.proofs.Common.{ap, map, refl, sym, option_map, Some, None}
use Rattle.std.proofs.lemmas.Result.{err_from_is_err_and}
use Rattle.std.proofs.lemmas.List.{map_push}
use Rattle.df_lemmas.proofs.Options.{none_left}
use Rattle.df_ntree.specs.File.{statement_of, branch_of}
use Rattle.df_ntree.specs.mirror.Reading.{all_of}
use Rattle.df_ntree.proofs.Repeat.{goes_on, is_done}
use Rattle.df_npexpr.specs.Rest.{rest_of}
use Rattle.df_npexpr.proofs.Loop.{list_fails, seen}
use Rattle.df_npdecl.proofs.Rows.{statement_step, statement_shrinks, else_if_step, else_if_shrinks, no_statement, statement_is, no_block, block_is}
use Rattle.df_npdecl.proofs.nesting.+statement.Goals as goal

pub statement-returns-then-room-eq0 : goal.statement-returns-then-room-eq0
statement-returns-then-room-eq0 t c = rw (no_statement c.args.room (rest_of c.args.cursor.now) c.if-room-eq0.true, c.syntax.ensures) (refl, refl, refl)

pub statement-returns-else-room-eq0 : goal.statement-returns-else-room-eq0
statement-returns-else-room-eq0 t c = rw (sym (statement_is c.args.room (rest_of c.args.cursor.now) c.if-room-eq0.false)) c.statement_by_kind.ensures

pub block-returns-then-room-eq0 : goal.block-returns-then-room-eq0
block-returns-then-room-eq0 t c = rw (no_block c.args.room (rest_of c.args.cursor.now) c.if-room-eq0.true, c.syntax.ensures) (refl, refl, refl)

pub block-returns-else-room-eq0 : goal.block-returns-else-room-eq0
block-returns-else-room-eq0 t c = rw (sym (block_is c.args.room (rest_of c.args.cursor.now) c.if-room-eq0.false)) c.braces.ensures

pub statements-returns-in_err-statement : goal.statements-returns-in_err-statement
statements-returns-in_err-statement t c =
    let p = err_from_is_err_and c.from_residual.result c.from_residual.ensures.1 in
    rw (p.1, p.2) (list_fails c.in_err-statement.field-0.0 (statement_step c.args.room) (statement_shrinks c.args.room) (map statement_of c.loop-statements.statements.items) (rest_of c.loop-statements.cursor) (all_of (statement_step c.args.room) (rest_of c.args.cursor.now)) c.in_err-statement.ensures c.loop-statements.invariant)

pub statements-loop-statements-smaller : goal.statements-loop-statements-smaller
statements-loop-statements-smaller t c =
    let e = seen (statement_step c.args.room (rest_of c.loop-statements.cursor)) (option_map statement_of c.in_ok-statement.field-0) (Some (statement_of c.in-Some.statement)) (rest_of c.next_statement.new.cursor) c.in_ok-statement.ensures (ap (option_map statement_of) c.in-Some.is) in
    (statement_shrinks c.args.room).falls (rest_of c.loop-statements.cursor) (rest_of c.next_statement.new.cursor) (statement_of c.in-Some.statement) e

pub statements-loop-statements-preserved : goal.statements-loop-statements-preserved
statements-loop-statements-preserved t c =
    let e = seen (statement_step c.args.room (rest_of c.loop-statements.cursor)) (option_map statement_of c.in_ok-statement.field-0) (Some (statement_of c.in-Some.statement)) (rest_of c.next_statement.new.cursor) c.in_ok-statement.ensures (ap (option_map statement_of) c.in-Some.is) in
    rw (c.in_ok-push.ensures.items, map_push statement_of c.loop-statements.statements.items c.in-Some.statement) (goes_on (statement_step c.args.room) (statement_shrinks c.args.room) (map statement_of c.loop-statements.statements.items) (rest_of c.loop-statements.cursor) (rest_of c.next_statement.new.cursor) (statement_of c.in-Some.statement) (all_of (statement_step c.args.room) (rest_of c.args.cursor.now)) e c.loop-statements.invariant)

pub statements-returns : goal.statements-returns
statements-returns t c =
    let e = seen (statement_step c.args.room (rest_of c.loop-statements.cursor)) (option_map statement_of c.in_ok-statement.field-0) None (rest_of c.next_statement.new.cursor) c.in_ok-statement.ensures (ap (option_map statement_of) (none_left c.in_ok-statement.field-0 c.in_default.not-Some)) in
    is_done (statement_step c.args.room) (statement_shrinks c.args.room) (map statement_of c.loop-statements.statements.items) (rest_of c.loop-statements.cursor) (rest_of c.next_statement.new.cursor) (all_of (statement_step c.args.room) (rest_of c.args.cursor.now)) e c.loop-statements.invariant

pub else_ifs-returns-in_err-branch : goal.else_ifs-returns-in_err-branch
else_ifs-returns-in_err-branch t c =
    let p = err_from_is_err_and c.from_residual.result c.from_residual.ensures.1 in
    rw (p.1, p.2) (list_fails c.in_err-branch.field-0.0 (else_if_step c.args.room) (else_if_shrinks c.args.room) (map branch_of c.loop-branches.branches.items) (rest_of c.loop-branches.cursor) (all_of (else_if_step c.args.room) (rest_of c.args.cursor.now)) c.in_err-branch.ensures c.loop-branches.invariant)

pub else_ifs-loop-branches-smaller : goal.else_ifs-loop-branches-smaller
else_ifs-loop-branches-smaller t c =
    let e = seen (else_if_step c.args.room (rest_of c.loop-branches.cursor)) (option_map branch_of c.in_ok-branch.field-0) (Some (branch_of c.in-Some.branch)) (rest_of c.next_else_if.new.cursor) c.in_ok-branch.ensures (ap (option_map branch_of) c.in-Some.is) in
    (else_if_shrinks c.args.room).falls (rest_of c.loop-branches.cursor) (rest_of c.next_else_if.new.cursor) (branch_of c.in-Some.branch) e

pub else_ifs-loop-branches-preserved : goal.else_ifs-loop-branches-preserved
else_ifs-loop-branches-preserved t c =
    let e = seen (else_if_step c.args.room (rest_of c.loop-branches.cursor)) (option_map branch_of c.in_ok-branch.field-0) (Some (branch_of c.in-Some.branch)) (rest_of c.next_else_if.new.cursor) c.in_ok-branch.ensures (ap (option_map branch_of) c.in-Some.is) in
    rw (c.in_ok-push.ensures.items, map_push branch_of c.loop-branches.branches.items c.in-Some.branch) (goes_on (else_if_step c.args.room) (else_if_shrinks c.args.room) (map branch_of c.loop-branches.branches.items) (rest_of c.loop-branches.cursor) (rest_of c.next_else_if.new.cursor) (branch_of c.in-Some.branch) (all_of (else_if_step c.args.room) (rest_of c.args.cursor.now)) e c.loop-branches.invariant)

pub else_ifs-returns : goal.else_ifs-returns
else_ifs-returns t c =
    let e = seen (else_if_step c.args.room (rest_of c.loop-branches.cursor)) (option_map branch_of c.in_ok-branch.field-0) None (rest_of c.next_else_if.new.cursor) c.in_ok-branch.ensures (ap (option_map branch_of) (none_left c.in_ok-branch.field-0 c.in_default.not-Some)) in
    is_done (else_if_step c.args.room) (else_if_shrinks c.args.room) (map branch_of c.loop-branches.branches.items) (rest_of c.loop-branches.cursor) (rest_of c.next_else_if.new.cursor) (all_of (else_if_step c.args.room) (rest_of c.args.cursor.now)) e c.loop-branches.invariant
