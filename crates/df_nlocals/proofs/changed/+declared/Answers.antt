use Rattle.df_nlocals.proofs.Words.{◌+◌, ◌++◌, List, ap, ◌∙◌, drop, drop_all, drop_next, stmts_in, branches_in, stmt_of, DeclaredStmt, declared_by_all, declared_by_branches}
use Rattle.df_lang.specs.declared.stmt.Branch.{Branch}
use Rattle.df_npass.specs.Statements.{declared_by}
use Rattle.df_nlocals.proofs.Gathering.{gathered, all_gathered}
use Rattle.df_nlocals.proofs.Branches.{branch_next}
use Rattle.df_nlocals.proofs.changed.+declared.Goals as goal

pub in_stmts-loop-stmt-preserved : goal.in_stmts-loop-stmt-preserved
in_stmts-loop-stmt-preserved t c =
    let l = c.loop-stmt in
    let items = c.deref-stmt-items.result.now in
    let x = c.stmt-item.result in
    let i = l.stmt-index in
    gathered (l.declared.items) (c.in_stmt.new.declared.items) (declared_by (stmt_of x)) (declared_by_all (stmts_in (drop i items))) (declared_by_all (stmts_in (drop (i + 1) items))) _ c.in_ok-in_stmt.ensures (ap (λ (ss : List DeclaredStmt). declared_by_all (stmts_in ss)) (drop_next items i x c.stmt-item.is c.loop-stmt-test.true)) l.invariant

pub in_stmts-returns : goal.in_stmts-returns
in_stmts-returns t c =
    let l = c.loop-stmt in
    let items = c.deref-stmt-items.result.now in
    all_gathered (l.declared.items) (declared_by_all (stmts_in (drop l.stmt-index items))) _ (ap (λ (ss : List DeclaredStmt). declared_by_all (stmts_in ss)) (drop_all l.stmt-index items c.loop-stmt-test.false)) l.invariant
    ∙ ap (λ (ss : List DeclaredStmt). c.args.declared.now.items ++ declared_by_all (stmts_in ss)) c.deref-stmt-items.ensures.value

pub in_branches-loop-branch-preserved : goal.in_branches-loop-branch-preserved
in_branches-loop-branch-preserved t c =
    let l = c.loop-branch in
    let items = c.deref-branch-items.result.now in
    let x = c.branch-item.result in
    let i = l.branch-index in
    gathered (l.declared.items) (c.in_stmts.new.declared.items) (declared_by_all (stmts_in x.body.items)) (declared_by_branches (branches_in (drop i items))) (declared_by_branches (branches_in (drop (i + 1) items))) _ c.in_ok-in_stmts.ensures (ap declared_by_branches (branch_next items i x c.branch-item.is c.loop-branch-test.true)) l.invariant

pub in_branches-returns : goal.in_branches-returns
in_branches-returns t c =
    let l = c.loop-branch in
    let items = c.deref-branch-items.result.now in
    all_gathered (l.declared.items) (declared_by_branches (branches_in (drop l.branch-index items))) _ (ap (λ (bs : List Branch). declared_by_branches (branches_in bs)) (drop_all l.branch-index items c.loop-branch-test.false)) l.invariant
    ∙ ap (λ (bs : List Branch). c.args.declared.now.items ++ declared_by_branches (branches_in bs)) c.deref-branch-items.ensures.value
