use Rattle.std.proofs.Common.{ap, map, ◌∙◌}
use Rattle.std.specs.Prelude.{option_map, Some}
use Rattle.std.proofs.lemmas.Result.{err_from_is_err_and}
use Rattle.df_ntree.specs.File.{statement_of, branch_of, branches_of, block_of, otherwise_of}
use Rattle.df_nnames.specs.Scope.{Scope}
use Rattle.df_nnames.specs.Meanings.{meanings_of}
use Rattle.df_nnames.proofs.Opening.{statement_if}
use Rattle.df_nnames.proofs.Parts.{first_told, others_told, last_tells, after_outer, statements_more, branches_told}
use Rattle.df_nnames.proofs.statements.+statement.Goals as goal

pub statement-returns-in_err-branch-in-If-clause-faults : goal.statement-returns-in_err-branch-in-If-clause-faults
statement-returns-in_err-branch-in-If-clause-faults t c =
    let p = err_from_is_err_and c.from_residual.result c.from_residual.ensures.1 in
    rw (p.1, p.2, c.in-If.is, statement_if c.in-If.first c.in-If.others c.in-If.otherwise) (first_told (meanings_of c.args.globals.now) c.args.scope.now (branch_of c.in-If.first) (branches_of (map branch_of c.in-If.others.items)) (otherwise_of (option_map block_of c.in-If.otherwise))
    c.in_err-branch-in-If.field-0.0 c.in_err-branch-in-If.ensures.faults)

pub statement-returns-in_err-branches-in-If-clause-faults : goal.statement-returns-in_err-branches-in-If-clause-faults
statement-returns-in_err-branches-in-If-clause-faults t c =
    let p = err_from_is_err_and c.from_residual-in_err-branches-in-If.result c.from_residual-in_err-branches-in-If.ensures.1 in
    rw (p.1, p.2, c.in-If.is, statement_if c.in-If.first c.in-If.others c.in-If.otherwise) (others_told (meanings_of c.args.globals.now) c.args.scope.now (branch_of c.in-If.first) (branches_of (map branch_of c.in-If.others.items)) (otherwise_of (option_map block_of c.in-If.otherwise))
    c.in_err-branches-in-If.field-0.0 c.branch-globals.new.scope c.in_ok-branch-in-If.ensures.faults c.in_ok-branch-in-If.ensures.scope c.in_err-branches-in-If.ensures.faults)

pub statement-returns-in-Some-clause-faults : goal.statement-returns-in-Some-clause-faults
statement-returns-in-Some-clause-faults t c =
    rw (c.in-If.is, statement_if c.in-If.first c.in-If.others c.in-If.otherwise, c.in-Some.is) (last_tells (meanings_of c.args.globals.now) c.args.scope.now (branch_of c.in-If.first) (branches_of (map branch_of c.in-If.others.items)) (otherwise_of (option_map block_of (Some c.in-Some.last)))
    c.block-in-Some.result c.branch-globals.new.scope c.branches.new.scope c.in_ok-branch-in-If.ensures.faults c.in_ok-branch-in-If.ensures.scope c.in_ok-branches-in-If.ensures.faults c.in_ok-branches-in-If.ensures.scope
    c.block-in-Some.ensures.faults)

pub statements-loop-each-preserved : goal.statements-loop-each-preserved
statements-loop-each-preserved t c = (
  ap (λ (s : Scope). s.outer) c.in_ok-statement.ensures.scope ∙ after_outer c.loop-each.scope (statement_of c.each-item.result) ∙ c.loop-each.invariant.0,
  statements_more (meanings_of c.args.globals.now) c.deref-each-items.result.now c.loop-each.each-index c.loop-each.scope c.statement.new.scope c.each-item.result _ c.loop-each-test.true c.each-item.is
      c.in_ok-statement.ensures.faults c.in_ok-statement.ensures.scope c.loop-each.invariant.1,
)

pub branches-returns-in_err-branch-clause-faults : goal.branches-returns-in_err-branch-clause-faults
branches-returns-in_err-branch-clause-faults t c =
    let p = err_from_is_err_and c.from_residual.result c.from_residual.ensures.1 in
    rw (p.1, p.2, ← c.deref-each-items.ensures.value) (branches_told (meanings_of c.args.globals.now) c.in_err-branch.field-0.0 c.deref-each-items.result.now c.loop-each.each-index c.loop-each.scope c.args.scope.now c.each-item.result _ c.loop-each-test.true c.each-item.is
    c.loop-each.invariant.0 c.in_err-branch.ensures.faults c.loop-each.invariant.1)
