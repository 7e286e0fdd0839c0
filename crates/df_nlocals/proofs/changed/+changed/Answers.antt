use Rattle.df_nlocals.proofs.Words.{◌+◌, ◌++◌, List, ap, ◌∙◌, drop, drop_all, drop_next, stmts_in, branches_in, stmt_of, DeclaredStmt, changed_in, changed_by_all, changed_by_branches}
use Rattle.df_lang.specs.declared.stmt.Branch.{Branch}
use Rattle.df_meaning.specs.Modular.{changed_by}
use Rattle.df_nlocals.proofs.Gathering.{gathered, all_gathered}
use Rattle.df_nlocals.proofs.Branches.{branch_next}
use Rattle.df_nlocals.proofs.changed.+changed.Goals as goal

pub by_stmts-loop-stmt-preserved : goal.by_stmts-loop-stmt-preserved
by_stmts-loop-stmt-preserved t c =
    let l = c.loop-stmt in
    let items = c.deref-stmt-items.result.now in
    let x = c.stmt-item.result in
    let i = l.stmt-index in
    gathered (changed_in l.changed.items) (changed_in c.by_stmt.new.changed.items) (changed_by (stmt_of x)) (changed_by_all (stmts_in (drop i items))) (changed_by_all (stmts_in (drop (i + 1) items))) _ c.in_ok-by_stmt.ensures (ap (λ (ss : List DeclaredStmt). changed_by_all (stmts_in ss)) (drop_next items i x c.stmt-item.is c.loop-stmt-test.true)) l.invariant

pub by_stmts-returns : goal.by_stmts-returns
by_stmts-returns t c =
    let l = c.loop-stmt in
    let items = c.deref-stmt-items.result.now in
    all_gathered (changed_in l.changed.items) (changed_by_all (stmts_in (drop l.stmt-index items))) _ (ap (λ (ss : List DeclaredStmt). changed_by_all (stmts_in ss)) (drop_all l.stmt-index items c.loop-stmt-test.false)) l.invariant
    ∙ ap (λ (ss : List DeclaredStmt). changed_in c.args.changed.now.items ++ changed_by_all (stmts_in ss)) c.deref-stmt-items.ensures.value

pub by_branches-loop-branch-preserved : goal.by_branches-loop-branch-preserved
by_branches-loop-branch-preserved t c =
    let l = c.loop-branch in
    let items = c.deref-branch-items.result.now in
    let x = c.branch-item.result in
    let i = l.branch-index in
    gathered (changed_in l.changed.items) (changed_in c.by_stmts.new.changed.items) (changed_by_all (stmts_in x.body.items)) (changed_by_branches (branches_in (drop i items))) (changed_by_branches (branches_in (drop (i + 1) items))) _ c.in_ok-by_stmts.ensures (ap changed_by_branches (branch_next items i x c.branch-item.is c.loop-branch-test.true)) l.invariant

pub by_branches-returns : goal.by_branches-returns
by_branches-returns t c =
    let l = c.loop-branch in
    let items = c.deref-branch-items.result.now in
    all_gathered (changed_in l.changed.items) (changed_by_branches (branches_in (drop l.branch-index items))) _ (ap (λ (bs : List Branch). changed_by_branches (branches_in bs)) (drop_all l.branch-index items c.loop-branch-test.false)) l.invariant
    ∙ ap (λ (bs : List Branch). changed_in c.args.changed.now.items ++ changed_by_branches (branches_in bs)) c.deref-branch-items.ensures.value
