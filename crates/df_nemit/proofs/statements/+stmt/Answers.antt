use Rattle.std.proofs.Common.{ℕ, ◌≤◌, length, subst, sym, arith, rules}
use Rattle.std.proofs.Math.Nat.{le_trans}
use Rattle.df_nplain.specs.View.{plain_of}
use Rattle.df_nemit.specs.mirror.Drafts.{draft_of, choice_of}
use Rattle.df_nemit.proofs.StatementWalks.{stmts_on, stmts_done, branches_on, branches_done}
use Rattle.df_nemit.proofs.statements.+stmt.Goals as goal

pub stmt-returns-in_ok-call-in-Call-clause-longer : goal.stmt-returns-in_ok-call-in-Call-clause-longer
stmt-returns-in_ok-call-in-Call-clause-longer t c = le_trans c.call.ensures.longer c.drops.ensures.longer

pub stmt-returns-in_err-stmts-in-If-clause-longer : goal.stmt-returns-in_err-stmts-in-If-clause-longer
stmt-returns-in_err-stmts-in-If-clause-longer t c = le_trans c.choices.ensures.longer c.stmts-in-If.ensures.longer

pub stmt-returns-in_ok-guard-in-While-clause-longer : goal.stmt-returns-in_ok-guard-in-While-clause-longer
stmt-returns-in_ok-guard-in-While-clause-longer t c = le_trans c.guard.ensures.long c.turns.ensures.longer

pub stmt-returns-in_ok-optional-in-Return-clause-longer : goal.stmt-returns-in_ok-optional-in-Return-clause-longer
stmt-returns-in_ok-optional-in-Return-clause-longer t c = le_trans c.optional-in-Return.ensures.longer c.leave-in-Return.ensures.longer

pub branch-returns-in_err-stmts-clause-longer : goal.branch-returns-in_err-stmts-clause-longer
branch-returns-in_err-stmts-clause-longer t c = le_trans c.guard.ensures.long c.stmts.ensures.longer

pub branch-returns-in_err-leave-clause-longer : goal.branch-returns-in_err-leave-clause-longer
branch-returns-in_err-leave-clause-longer t c = le_trans (le_trans c.guard.ensures.long c.stmts.ensures.longer) c.leave.ensures.longer

pub stmts-returns-in_err-stmt-clause-longer : goal.stmts-returns-in_err-stmt-clause-longer
stmts-returns-in_err-stmt-clause-longer t c = le_trans c.loop-one.invariant.longer c.stmt.ensures.longer

pub choices-returns-in_err-branch-clause-longer : goal.choices-returns-in_err-branch-clause-longer
choices-returns-in_err-branch-clause-longer t c = le_trans c.loop-one.invariant.longer c.branch-plain.ensures.longer

pub stmts-loop-one-preserved : goal.stmts-loop-one-preserved
stmts-loop-one-preserved t c = record {
  longer = le_trans c.loop-one.invariant.longer c.stmt.ensures.longer;
  rest = stmts_on (plain_of c.args.plain.now) c.args.scratch c.args.all.now.items c.loop-one.one-index c.one-item.result (draft_of c.loop-one.draft) (draft_of c.stmt.new.draft) _ (omega arith) (search rules)
      c.in_ok-stmt.ensures.ok c.loop-one.invariant.rest;
}

pub stmts-returns-clause-ok : goal.stmts-returns-clause-ok
stmts-returns-clause-ok t c = stmts_done (plain_of c.args.plain.now) c.args.scratch c.args.all.now.items c.loop-one.one-index (draft_of c.loop-one.draft) _ (omega arith) c.loop-one.invariant.rest

pub choices-loop-one-preserved : goal.choices-loop-one-preserved
choices-loop-one-preserved t c = record {
  longer = le_trans c.loop-one.invariant.longer c.branch-plain.ensures.longer;
  rest = branches_on (plain_of c.args.plain.now) c.args.scratch c.args.branches.now.items c.loop-one.one-index c.one-item.result (choice_of c.loop-one.draft c.loop-one.exits) (choice_of c.branch-plain.new.draft c.branch-plain.new.exits) _ (omega arith) (search rules)
      c.in_ok-branch.ensures.ok c.loop-one.invariant.rest;
}

pub choices-returns-clause-ok : goal.choices-returns-clause-ok
choices-returns-clause-ok t c = branches_done (plain_of c.args.plain.now) c.args.scratch c.args.branches.now.items c.loop-one.one-index (choice_of c.loop-one.draft c.loop-one.exits) _ (omega arith) c.loop-one.invariant.rest

pub stmt-returns-in_ok-stmts-in-If-clause-longer : goal.stmt-returns-in_ok-stmts-in-If-clause-longer
stmt-returns-in_ok-stmts-in-If-clause-longer t c = subst (λ (n : ℕ). length c.args.draft.now.code.items ≤ n) (sym c.land.ensures.long) (le_trans c.choices.ensures.longer c.stmts-in-If.ensures.longer)
