use Rattle.std.proofs.Common.{arith, rules, map, sym, ap, ◌∙◌, ◌++◌, []}
use Rattle.std.specs.Prelude.{Vec, Option}
use Rattle.std.specs.List.{cons_option}
use Rattle.std.specs.declared.alloc.Global.{Global}
use Rattle.df_lang.specs.StmtView.{stmt_of}
use Rattle.df_nplain.specs.StmtView as plain
use Rattle.df_nplain.specs.declared.stmt.Stmt.{Stmt}
use Rattle.df_nerase.specs.Views.{branch_of}
use Rattle.df_nerase.specs.Eraser.{program_in}
use Rattle.df_nerase.specs.Erasing.{erase_stmt}
use Rattle.df_nerase.proofs.Erased.{all_branches, all_stmts, erase_branch, one_erased, none_more}
use Rattle.df_nerase.proofs.MadeViews.{made_more}
use Rattle.df_nerase.proofs.eraser.Eraser.+stmt.Goals as goal
use Rattle.df_nerase.proofs.eraser.Eraser.+stmt.Goals.{stmts-in-Some+in_ok-push, stmts-in_default}

pub branches-returns : goal.branches-returns
branches-returns t c = all_branches branch_of (program_in c.args.self.now) c.args.all.now.items c.loop-branch.branch-index (map plain.branch_of c.loop-branch.erased.items) c.loop-branch.invariant (omega arith)

pub branches-loop-branch-preserved : goal.branches-loop-branch-preserved
branches-loop-branch-preserved t c =
    let l = c.loop-branch in
    let made = c.in_ok-branch.ensures in
    made_more branch_of plain.branch_of (erase_branch (program_in c.args.self.now)) c.args.all.now.items l.branch-index c.branch-item.result (omega arith) (search rules) l.erased.items c.push.new.self.items c.in_ok-branch.field-0
    (λ i. record { guard = made.guard i; body = made.body i }) c.in_ok-push.ensures.items l.invariant

pub stmts-returns : goal.stmts-returns
stmts-returns t c = all_stmts stmt_of (program_in c.args.self.now) c.args.all.now.items c.loop-one.one-index (map plain.stmt_of c.loop-one.erased.items) c.loop-one.invariant (omega arith)

pub stmts-loop-one-preserved : goal.stmts-loop-one-preserved
stmts-loop-one-preserved t c =
    let p = program_in c.args.self.now in
    let kept = c.in_ok-kept.field-0 in
    let made = c.loop-one.erased.items in
    let new = c.match-branch-3.erased.items in
    elim c.match-branch-3.branch [
      | stmts-in-Some+in_ok-push w ↦
          let grown = ap (λ (v : Vec Stmt Global). v.items) w.erased-is ∙ w.in_ok-push.ensures.items ∙ ap (λ (o : Option Stmt). made ++ cons_option o []) (sym w.in-Some.is) in
          one_erased stmt_of plain.stmt_of (erase_stmt p) c.args.all.now.items c.loop-one.one-index c.one-item.result made new kept (omega arith) (search rules) c.in_ok-kept.ensures grown c.loop-one.invariant
      | stmts-in_default w ↦
          let same = none_more made new kept w.in_default.is (ap (λ (v : Vec Stmt Global). v.items) w.erased-is) in
          one_erased stmt_of plain.stmt_of (erase_stmt p) c.args.all.now.items c.loop-one.one-index c.one-item.result made new kept (omega arith) (search rules) c.in_ok-kept.ensures same c.loop-one.invariant
    ]
