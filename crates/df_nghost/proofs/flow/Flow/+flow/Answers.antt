use Rattle.std.proofs.Common.{refl, rules}
use Rattle.df_lang.specs.declared.stmt.Stmt.TheFolds as folds
use Rattle.df_lang.specs.declared.stmt.Stmt.TheViews as views
use Rattle.df_lang.specs.StmtView.{stmt_of}
use Rattle.df_lang.specs.DeclView.{method_of}
use Rattle.df_nghost.specs.mirror.Parts.{stmts_in, branches_in}
use Rattle.df_nghost.specs.declared.flow.Flow.{Flow}
use Rattle.df_nghost.specs.mirror.Way.{known}
use Rattle.df_nghost.proofs.Points.{extends_on, back_on, back_same, back_to, within}
use Rattle.df_nghost.proofs.Steps.{stmt_goes, branch_goes, turn_back, choice_is}
use Rattle.df_nghost.proofs.flow.Flow.+flow.Goals as goal

pub stmts-loop-stmt-preserved : goal.stmts-loop-stmt-preserved
stmts-loop-stmt-preserved t c = record {
  known = stmt_goes (method_of c.args.method.now) (known c.loop-stmt.self) (known c.stmt.new.self) _ c.deref-stmt-items.result.now c.loop-stmt.stmt-index c.stmt-item.result
      c.loop-stmt-test.true c.stmt-item.is (search rules) c.loop-stmt.invariant.known;
  extends = extends_on c.args.self.now.assigned c.loop-stmt.self.assigned c.stmt.new.self.assigned c.loop-stmt.invariant.extends (search rules);
}

pub branches-loop-branch-preserved : goal.branches-loop-branch-preserved
branches-loop-branch-preserved t c = record {
  ways = branch_goes (method_of c.args.method.now) c.args.self.now.assigned c.loop-branch.self c.read.new.self c.way.new.self c.loop-branch.join c.way.new.join _ c.deref-branch-items.result.now
      c.loop-branch.branch-index c.branch-item.result c.loop-branch-test.true c.branch-item.is c.loop-branch.invariant.back (search rules) (search rules) (search rules) c.loop-branch.invariant.ways;
  back = back_on c.args.self.now.assigned c.loop-branch.self.assigned c.way.new.self.assigned c.loop-branch.invariant.back
      (back_on c.loop-branch.self.assigned c.read.new.self.assigned c.way.new.self.assigned (back_same c.loop-branch.self.assigned c.read.new.self.assigned (search rules)) (search rules));
}

pub turn-back-requires : goal.turn-back-requires
turn-back-requires t c = within c.args.self.now.assigned c.stmts.new.self.assigned c.in_ok-stmts.ensures.extends c.len-count.result (search rules)

pub way-back-requires : goal.way-back-requires
way-back-requires t c = within c.args.self.now.assigned c.stmts.new.self.assigned c.in_ok-stmts.ensures.extends c.len-count.result (search rules)

pub way-add-requires : goal.way-add-requires
way-add-requires t c = within c.args.self.now.assigned c.stmts.new.self.assigned c.in_ok-stmts.ensures.extends c.len-count.result (search rules)

pub turn-returns-clause-back : goal.turn-returns-clause-back
turn-returns-clause-back t c =
    back_to c.args.self.now.assigned c.stmts.new.self.assigned c.back.new.self c.in_ok-stmts.ensures.extends c.len-count.result (search rules) c.back.ensures.reached c.back.ensures.values c.back.ensures.taken

pub way-returns-clause-back : goal.way-returns-clause-back
way-returns-clause-back t c =
    back_to c.args.self.now.assigned c.stmts.new.self.assigned c.back.new.self c.in_ok-stmts.ensures.extends c.len-count.result (search rules) c.back.ensures.reached c.back.ensures.values c.back.ensures.taken

pub turn-returns-clause-known : goal.turn-returns-clause-known
turn-returns-clause-known t c =
    let new : Flow = record c.stmts.new.self { assigned = c.back.new.self } in
    turn_back (method_of c.args.method.now) c.args.self.now c.stmts.new.self new (stmts_in c.args.body.now.items)
    (back_to c.args.self.now.assigned c.stmts.new.self.assigned c.back.new.self c.in_ok-stmts.ensures.extends c.len-count.result (search rules) c.back.ensures.reached c.back.ensures.values c.back.ensures.taken) refl c.in_ok-stmts.ensures.known

pub stmt-returns-in_ok-go_on-in-If-clause-known : goal.stmt-returns-in_ok-go_on-in-If-clause-known
stmt-returns-in_ok-go_on-in-If-clause-known t c =
    let new : Flow = record c.way.new.self { assigned = c.go_on.new.self } in
    choice_is (method_of c.args.method.now) c.args.self.now c.branches.new.self c.way.new.self new c.new-join.result c.branches.new.join c.way.new.join
    (stmt_of c.args.stmt.now) (branches_in c.in-If.branches.items) (stmts_in c.in-If.otherwise.items) (search (rules, folds.the_lemmas, views.the_lemmas)) c.new-join.ensures
    c.in_ok-branches-in-If.ensures.ways c.in_ok-branches-in-If.ensures.back c.in_ok-way-in-If.ensures.ways c.in_ok-way-in-If.ensures.back c.in_ok-go_on-in-If.ensures.assigned refl
