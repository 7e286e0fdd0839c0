use Rattle.std.proofs.Common.{◌≡◌, map, Some, None, rules, refl}
use Rattle.std.specs.Prelude.{option_map}
use Rattle.std.proofs.lemmas.List.{map-append}
use Rattle.std.proofs.lemmas.Result.{err_from_is_err_and}
use Rattle.df_lang.specs.Stmt as pure
use Rattle.df_lang.specs.StmtView as view
use Rattle.df_ntree.specs.declared.file.Statement.{the_lemmas}
use Rattle.df_ntree.specs.Expr.{expr_of}
use Rattle.df_ntree.specs.File as source
use Rattle.df_ntree.specs.File.{statement_of, statements_of, block_of, branches_of, otherwise_of}
use Rattle.df_nnames.proofs.Opening.{statement_if}
use Rattle.df_ntstmt.specs.Headings.{heading_of}
use Rattle.df_ntstmt.specs.Views.{branch_of}
use Rattle.df_ntstmt.specs.mirror.Statements.{statements_in, branches_in}
use Rattle.df_ntstmt.proofs.LoopedBlocks.{statements_go, statements_stop, statements_done, others_go, others_stop, others_done}
use Rattle.df_ntstmt.proofs.Blocks.{block_fits, block_behind, first_stops, others_stop_if, last_stops, if_made}
use Rattle.df_ntstmt.proofs.LoopsMade.{on_ok, heading_stops, body_stops, loop_made}
use Rattle.df_ntstmt.proofs.statements.+statement.Goals as goal

-- ---- blocks

pub typed_block-leave-requires : goal.typed_block-leave-requires
typed_block-leave-requires t c =
    block_fits c.args.env.now c.enter-mark.new.self c.statements.new.env c.enter-mark.result.outer (statements_of (map statement_of c.args.block.now.statements.items)) c.enter-mark.ensures.scope c.in_ok-stmts.ensures.env c.enter-mark.ensures.mark

pub typed_block-returns-clause-env : goal.typed_block-returns-clause-env
typed_block-returns-clause-env t c =
    let inside : (block_of c.args.block.now).statements ≡ statements_of (map statement_of c.args.block.now.statements.items) = search (rules, the_lemmas) in
    rw inside
    (block_behind c.args.env.now c.enter-mark.new.self c.statements.new.env c.leave.new.self c.enter-mark.result.outer (statements_of (map statement_of c.args.block.now.statements.items)) c.enter-mark.ensures.scope c.in_ok-stmts.ensures.env c.enter-mark.ensures.mark c.leave.ensures)

-- ---- lists

pub statements-loop-each-preserved : goal.statements-loop-each-preserved
statements-loop-each-preserved t c =
    let items = c.deref-each-items.result.now in
    let gone = statements_go c.loop-each.env c.statement.new.env items c.loop-each.each-index c.each-item.result (map view.stmt_of c.loop-each.stmts.items) (view.stmt_of c.in_ok-stmt.stmt) _ _ c.loop-each-test.true c.each-item.is c.in_ok-stmt.ensures.stmt c.in_ok-stmt.ensures.env c.loop-each.invariant.0 c.loop-each.invariant.1 in
    (rw (c.in_ok-push.ensures.items, map-append view.stmt_of) gone.0, gone.1)

pub statements-returns-in_err-stmt-clause-stmts : goal.statements-returns-in_err-stmt-clause-stmts
statements-returns-in_err-stmt-clause-stmts t c =
    let p = err_from_is_err_and c.from_residual.result c.from_residual.ensures.1 in
    let items = c.deref-each-items.result.now in
    rw (p.1, p.2, ← c.deref-each-items.ensures.value)
    (statements_stop view.stmt_of (λ (x : pure.Stmts). x) c.in_err-stmt.field-0.0 c.loop-each.env items c.loop-each.each-index c.each-item.result (map view.stmt_of c.loop-each.stmts.items) _ c.loop-each-test.true c.each-item.is c.in_err-stmt.ensures.stmt c.loop-each.invariant.0)

pub branches-loop-each-preserved : goal.branches-loop-each-preserved
branches-loop-each-preserved t c =
    let items = c.deref-each-items.result.now in
    let gone = others_go c.loop-each.env c.branch-alloc.new.env items c.loop-each.each-index c.each-item.result (map branch_of c.loop-each.branches.items) (branch_of c.in_ok-one.one) _ _ c.loop-each-test.true c.each-item.is c.in_ok-one.ensures.branch c.in_ok-one.ensures.env c.loop-each.invariant.0 c.loop-each.invariant.1 in
    (rw (c.in_ok-push.ensures.items, map-append branch_of) gone.0, gone.1)

pub branches-returns-in_err-one-clause-branches : goal.branches-returns-in_err-one-clause-branches
branches-returns-in_err-one-clause-branches t c =
    let p = err_from_is_err_and c.from_residual.result c.from_residual.ensures.1 in
    let items = c.deref-each-items.result.now in
    rw (p.1, p.2, ← c.deref-each-items.ensures.value)
    (others_stop branch_of (λ (x : pure.Branches). x) c.in_err-one.field-0.0 c.loop-each.env items c.loop-each.each-index c.each-item.result (map branch_of c.loop-each.branches.items) _ c.loop-each-test.true c.each-item.is c.in_err-one.ensures.branch c.loop-each.invariant.0)

-- ---- `if`

pub statement-returns-in_err-first-in-If-clause-stmt : goal.statement-returns-in_err-first-in-If-clause-stmt
statement-returns-in_err-first-in-If-clause-stmt t c =
    let p = err_from_is_err_and c.from_residual-in_err-first-in-If.result c.from_residual-in_err-first-in-If.ensures.1 in
    rw (p.1, p.2, c.in-If.is, statement_if c.in-If.first c.in-If.others c.in-If.otherwise)
    (first_stops branch_of (λ (x : pure.Stmt). x) c.in_err-first-in-If.field-0.0 c.args.env.now (source.branch_of c.in-If.first) (branches_of (map source.branch_of c.in-If.others.items)) (otherwise_of (option_map block_of c.in-If.otherwise)) c.in_err-first-in-If.ensures.branch)

pub statement-returns-in_err-others-in-If-clause-stmt : goal.statement-returns-in_err-others-in-If-clause-stmt
statement-returns-in_err-others-in-If-clause-stmt t c =
    let p = err_from_is_err_and c.from_residual-in_err-others-in-If.result c.from_residual-in_err-others-in-If.ensures.1 in
    rw (p.1, p.2, c.in-If.is, statement_if c.in-If.first c.in-If.others c.in-If.otherwise)
    (others_stop_if view.branches_of (λ (x : pure.Stmt). x) c.in_err-others-in-If.field-0.0 c.args.env.now c.branch-alloc.new.env (source.branch_of c.in-If.first) (branches_of (map source.branch_of c.in-If.others.items)) (otherwise_of (option_map block_of c.in-If.otherwise))
    (branch_of c.in_ok-first-in-If.first) c.in_ok-first-in-If.ensures.branch c.in_ok-first-in-If.ensures.env c.in_err-others-in-If.ensures.branches)

pub statement-returns-in_err-last-in-Some-clause-stmt : goal.statement-returns-in_err-last-in-Some-clause-stmt
statement-returns-in_err-last-in-Some-clause-stmt t c =
    let p = err_from_is_err_and c.from_residual-in_err-last-in-Some.result c.from_residual-in_err-last-in-Some.ensures.1 in
    rw (p.1, p.2, c.in-If.is, statement_if c.in-If.first c.in-If.others c.in-If.otherwise, c.in-Some.is)
    (last_stops (λ (x : pure.Stmts). x) (λ (x : pure.Stmt). x) c.in_err-last-in-Some.field-0.0 c.args.env.now c.branch-alloc.new.env c.branches.new.env (source.branch_of c.in-If.first) (branches_of (map source.branch_of c.in-If.others.items)) (otherwise_of (option_map block_of (Some c.in-Some.last)))
    (branch_of c.in_ok-first-in-If.first) (view.branches_of (map branch_of c.in_ok-others-in-If.others.items)) c.in_ok-first-in-If.ensures.branch c.in_ok-first-in-If.ensures.env c.in_ok-others-in-If.ensures.branches c.in_ok-others-in-If.ensures.env c.in_err-last-in-Some.ensures.stmts)

pub statement-returns-in_ok-joined-in-None-clause-stmt : goal.statement-returns-in_ok-joined-in-None-clause-stmt
statement-returns-in_ok-joined-in-None-clause-stmt t c =
    rw (c.in_ok-joined-in-None.ensures, c.new.ensures.items, c.in-If.is, statement_if c.in-If.first c.in-If.others c.in-If.otherwise, c.in-None.is)
    (if_made c.args.env.now c.branch-alloc.new.env c.branches.new.env (source.branch_of c.in-If.first) (branches_of (map source.branch_of c.in-If.others.items)) (otherwise_of (option_map block_of None))
    (branch_of c.in_ok-first-in-If.first) (view.branches_of (map branch_of c.in_ok-others-in-If.others.items)) pure.done c.in_ok-first-in-If.ensures.branch c.in_ok-first-in-If.ensures.env c.in_ok-others-in-If.ensures.branches c.in_ok-others-in-If.ensures.env refl)

pub statement-returns-in_ok-joined-in-Some-clause-stmt : goal.statement-returns-in_ok-joined-in-Some-clause-stmt
statement-returns-in_ok-joined-in-Some-clause-stmt t c =
    rw (c.in_ok-joined-in-Some.ensures, c.in-If.is, statement_if c.in-If.first c.in-If.others c.in-If.otherwise, c.in-Some.is)
    (if_made c.args.env.now c.branch-alloc.new.env c.branches.new.env (source.branch_of c.in-If.first) (branches_of (map source.branch_of c.in-If.others.items)) (otherwise_of (option_map block_of (Some c.in-Some.last)))
    (branch_of c.in_ok-first-in-If.first) (view.branches_of (map branch_of c.in_ok-others-in-If.others.items)) (view.stmts_of (map view.stmt_of c.in_ok-last-in-Some.last.items)) c.in_ok-first-in-If.ensures.branch c.in_ok-first-in-If.ensures.env c.in_ok-others-in-If.ensures.branches c.in_ok-others-in-If.ensures.env c.in_ok-last-in-Some.ensures.stmts)

-- ---- `while`

pub statement-returns-in_err-heading-in-While-clause-stmt : goal.statement-returns-in_err-heading-in-While-clause-stmt
statement-returns-in_err-heading-in-While-clause-stmt t c =
    let is : source.statement_of c.args.statement.now ≡ source.While c.in-While.pos (expr_of c.in-While.guard) (map source.clause_of c.in-While.clauses.items) (block_of c.in-While.body).pos (block_of c.in-While.body).statements = search (rules, the_lemmas) in
    let p = err_from_is_err_and c.from_residual-in_err-heading-in-While.result c.from_residual-in_err-heading-in-While.ensures.1 in
    rw (p.1, p.2, is, ← c.deref-in-While.ensures.value)
    (heading_stops c.args.env.now c.in-While.pos (expr_of c.in-While.guard) (map source.clause_of c.deref-in-While.result.now) (block_of c.in-While.body).pos (block_of c.in-While.body).statements heading_of (λ (x : pure.Stmt). x) c.in_err-heading-in-While.field-0.0 c.in_err-heading-in-While.ensures.parts)

pub statement-returns-in_err-body-in-While-clause-stmt : goal.statement-returns-in_err-body-in-While-clause-stmt
statement-returns-in_err-body-in-While-clause-stmt t c =
    let is : source.statement_of c.args.statement.now ≡ source.While c.in-While.pos (expr_of c.in-While.guard) (map source.clause_of c.in-While.clauses.items) (block_of c.in-While.body).pos (block_of c.in-While.body).statements = search (rules, the_lemmas) in
    let p = err_from_is_err_and c.from_residual-in_err-body-in-While.result c.from_residual-in_err-body-in-While.ensures.1 in
    rw (p.1, p.2, is, ← c.deref-in-While.ensures.value)
    (body_stops c.args.env.now c.in-While.pos (expr_of c.in-While.guard) (map source.clause_of c.deref-in-While.result.now) (block_of c.in-While.body).pos (block_of c.in-While.body).statements (heading_of c.in_ok-heading-in-While.heading) c.in_ok-heading-in-While.ensures.parts (λ (x : pure.Stmts). x) (λ (x : pure.Stmt). x) c.in_err-body-in-While.field-0.0 c.in_err-body-in-While.ensures.stmts)

pub statement-returns-in_ok-body-in-While-clause-stmt : goal.statement-returns-in_ok-body-in-While-clause-stmt
statement-returns-in_ok-body-in-While-clause-stmt t c =
    let is : source.statement_of c.args.statement.now ≡ source.While c.in-While.pos (expr_of c.in-While.guard) (map source.clause_of c.in-While.clauses.items) (block_of c.in-While.body).pos (block_of c.in-While.body).statements = search (rules, the_lemmas) in
    rw (is, ← c.deref-in-While.ensures.value)
    (loop_made c.args.env.now c.in-While.pos (expr_of c.in-While.guard) (map source.clause_of c.deref-in-While.result.now) (block_of c.in-While.body).pos (block_of c.in-While.body).statements (heading_of c.in_ok-heading-in-While.heading) c.in_ok-heading-in-While.ensures.parts view.stmt_of c.looped.result (view.stmts_of (map view.stmt_of c.in_ok-body-in-While.body.items)) c.in_ok-heading-in-While.heading.is_measured
    c.in_ok-body-in-While.ensures.stmts c.in_ok-heading-in-While.ensures.measured c.looped.ensures)

pub statement-returns-in_ok-body-in-While-clause-env : goal.statement-returns-in_ok-body-in-While-clause-env
statement-returns-in_ok-body-in-While-clause-env t c =
    let is : source.statement_of c.args.statement.now ≡ source.While c.in-While.pos (expr_of c.in-While.guard) (map source.clause_of c.in-While.clauses.items) (block_of c.in-While.body).pos (block_of c.in-While.body).statements = search (rules, the_lemmas) in
    rw is (on_ok c.looped.result _ c.in_ok-body-in-While.ensures.env)

-- ---- at the ends of lists

pub statements-returns-clause-stmts : goal.statements-returns-clause-stmts
statements-returns-clause-stmts t c =
    let items = c.deref-each-items.result.now in
    rw (← c.deref-each-items.ensures.value)
    (statements_done c.loop-each.env items c.loop-each.each-index (map view.stmt_of c.loop-each.stmts.items) (statements_in c.args.env.now (statements_of (map statement_of items))) _ c.loop-each-test.false c.loop-each.invariant.0 c.loop-each.invariant.1).0

pub branches-returns-clause-branches : goal.branches-returns-clause-branches
branches-returns-clause-branches t c =
    let items = c.deref-each-items.result.now in
    rw (← c.deref-each-items.ensures.value)
    (others_done c.loop-each.env items c.loop-each.each-index (map branch_of c.loop-each.branches.items) (branches_in c.args.env.now (branches_of (map source.branch_of items))) _ c.loop-each-test.false c.loop-each.invariant.0 c.loop-each.invariant.1).0
