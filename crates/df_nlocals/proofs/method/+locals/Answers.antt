use Rattle.df_nlocals.proofs.Words.{◌+◌, List, sym, ap, ◌∙◌, drop, drop_all, drop_next, stmts_in, branches_in, DeclaredStmt, Ty, locals_after_all, locals_after_branches}
use Rattle.df_lang.specs.declared.stmt.Branch.{Branch}
use Rattle.df_nlocals.proofs.Branches.{branch_next}
use Rattle.df_nlocals.proofs.method.+locals.Goals as goal

pub after_stmts-loop-stmt-preserved : goal.after_stmts-loop-stmt-preserved
after_stmts-loop-stmt-preserved t c =
    let l = c.loop-stmt in
    let items = c.deref-stmt-items.result.now in
    let x = c.stmt-item.result in
    let i = l.stmt-index in
    ap (λ (types : List Ty). locals_after_all types (stmts_in (drop (i + 1) items))) c.in_ok-after_stmt.ensures
    ∙ ap (λ (ss : List DeclaredStmt). locals_after_all l.types.items (stmts_in ss)) (sym (drop_next items i x c.stmt-item.is c.loop-stmt-test.true)) ∙ l.invariant

pub after_stmts-returns : goal.after_stmts-returns
after_stmts-returns t c =
    let l = c.loop-stmt in
    let items = c.deref-stmt-items.result.now in
    ap (λ (ss : List DeclaredStmt). locals_after_all l.types.items (stmts_in ss)) (sym (drop_all l.stmt-index items c.loop-stmt-test.false)) ∙ l.invariant
    ∙ ap (λ (ss : List DeclaredStmt). locals_after_all c.args.types.now.items (stmts_in ss)) c.deref-stmt-items.ensures.value

pub after_branches-loop-branch-preserved : goal.after_branches-loop-branch-preserved
after_branches-loop-branch-preserved t c =
    let l = c.loop-branch in
    let items = c.deref-branch-items.result.now in
    let x = c.branch-item.result in
    let i = l.branch-index in
    ap (λ (types : List Ty). locals_after_branches types (branches_in (drop (i + 1) items))) c.in_ok-after_stmts.ensures
    ∙ ap (locals_after_branches l.types.items) (sym (branch_next items i x c.branch-item.is c.loop-branch-test.true)) ∙ l.invariant

pub after_branches-returns : goal.after_branches-returns
after_branches-returns t c =
    let l = c.loop-branch in
    let items = c.deref-branch-items.result.now in
    ap (λ (bs : List Branch). locals_after_branches l.types.items (branches_in bs)) (sym (drop_all l.branch-index items c.loop-branch-test.false)) ∙ l.invariant
    ∙ ap (λ (bs : List Branch). locals_after_branches c.args.types.now.items (branches_in bs)) c.deref-branch-items.ensures.value
