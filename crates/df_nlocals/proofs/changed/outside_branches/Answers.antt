use Rattle.df_nlocals.proofs.Words.{◌+◌, ◌++◌, List, ap, ◌∙◌, drop, drop_all, map-append, stmts_in, branches_in, changed_in, changed_of, changed_outside, changed_in_branches, DeclaredChanged}
use Rattle.df_lang.specs.declared.stmt.Branch.{Branch}
use Rattle.df_nlocals.proofs.Gathering.{gathered, all_gathered}
use Rattle.df_nlocals.proofs.Branches.{branch_next}
use Rattle.df_nlocals.proofs.changed.outside_branches.Goals as goal

pub loop-branch-preserved : goal.loop-branch-preserved
loop-branch-preserved c =
    let l = c.loop-branch in
    let items = c.deref-branch-items.result.now in
    let x = c.branch-item.result in
    let i = l.branch-index in
    let added = ap (λ (cs : List DeclaredChanged). changed_in cs) c.in_ok-extend_from_slice.ensures.items ∙ map-append changed_of l.all.items c.deref.result.now
    ∙ ap (λ (cs : List _). changed_in l.all.items ++ cs) (ap changed_in c.deref.ensures.value ∙ c.in_ok-changed.ensures) in
    gathered (changed_in l.all.items) (changed_in c.extend_from_slice.new.self.items) (changed_outside (stmts_in x.body.items)) (changed_in_branches (branches_in (drop i items))) (changed_in_branches (branches_in (drop (i + 1) items))) _ added
    (ap changed_in_branches (branch_next items i x c.branch-item.is c.loop-branch-test.true)) l.invariant

pub returns : goal.returns
returns c =
    let l = c.loop-branch in
    let items = c.deref-branch-items.result.now in
    all_gathered (changed_in l.all.items) (changed_in_branches (branches_in (drop l.branch-index items))) _ (ap (λ (bs : List Branch). changed_in_branches (branches_in bs)) (drop_all l.branch-index items c.loop-branch-test.false)) l.invariant
    ∙ ap (λ (bs : List Branch). changed_in_branches (branches_in bs)) c.deref-branch-items.ensures.value
