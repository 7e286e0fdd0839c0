use Rattle.std.proofs.Common.{inl, ap, refl, sym, subst, true, false, ◌∙◌}
use Rattle.df_lang.specs.View.{program_of}
use Rattle.df_ncmd.specs.Line.{Command, Bulk}
use Rattle.df_ncmd.specs.View.{command_of}
use Rattle.df_nmach.specs.View.{code_of}
use Rattle.df_ntop.specs.Call.{Streams, stream}
use Rattle.df_ntop.specs.Command.{usual, budget_of}
use Rattle.df_ntop.specs.Answer.{search_budget}
use Rattle.df_ntop.specs.Ending.{Ends, of_program}
use Rattle.df_ntop.specs.declared.ending.End.TheVariants as ends
use Rattle.df_ntop.proofs.Bulk.{bulk_is, later, last_far, last_verified, line_proves, verified_line, cut_line_ends, brief_ends, run_ends}
use Rattle.df_ntop.proofs.Limits.{steps_are_some}
use Rattle.df_ntop.proofs.Programs.{all_correct, all_proved, ready_to_run}
use Rattle.df_ntop.proofs.running.report_and_run.Goals as goal

pub prove-requires : goal.prove-requires
prove-requires g c = steps_are_some c.budget.result (budget_of (command_of c.args.command.now)) c.budget.ensures c.requires.budget

pub returns-in_default-clause-ends : goal.returns-in_default-clause-ends
returns-in_default-clause-ends g c = λ log err silent. inl (refl, silent)

-- the line is cut off
pub returns-in-Err-clause-ends : goal.returns-in-Err-clause-ends
returns-in-Err-clause-ends g c = λ log err silent.
    let program = program_of c.args.program.now.program in
    let b = bulk_is (command_of c.args.command.now) c.requires.bulk in
    let report = c.in-Ok.report in
    let s : Streams = record { out = stream g.O.Sink c.args.out.now c.put_line.new.sink; err = err } in
    let last = last_far program c.budget.result usual report.verified report.last.items (c.budget.ensures ∙ ap (λ (x : Command). search_budget (budget_of x)) b.2) c.in-Ok.ensures.last in
    subst (λ (x : Command). Ends (of_program x log program) s c.in-Err.end) (sym b.2)
    (cut_line_ends program log s b.0 b.1 report.verified report.last.items c.in-Err.end last (rw c.as_slice.ensures.value at c.in-Err.ensures.cut) silent)

-- it tells of a failure
pub returns-then-not-report-clause-ends : goal.returns-then-not-report-clause-ends
returns-then-not-report-clause-ends g c = λ log err silent.
    let program = program_of c.args.program.now.program in
    let b = bulk_is (command_of c.args.command.now) c.requires.bulk in
    let report = c.in-Ok.report in
    let s : Streams = record { out = stream g.O.Sink c.args.out.now c.put_line.new.sink; err = err } in
    let last = last_far program c.budget.result usual report.verified report.last.items (c.budget.ensures ∙ ap (λ (x : Command). search_budget (budget_of x)) b.2) c.in-Ok.ensures.last in
    subst (λ (x : Command). Ends (of_program x log program) s ends.Unproved) (sym b.2)
    (brief_ends program log s b.0 b.1 report.last.items (last_verified program usual report.verified false report.last.items c.if-not-report.true last)
    (ready_to_run program (Bulk b.0 b.1) c.args.number c.requires.native c.requires.entry) (rw c.as_slice.ensures.value at c.in-Ok-put_line.ensures.put) silent)

pub run_entry-requires-clause-correct : goal.run_entry-requires-clause-correct
run_entry-requires-clause-correct g c =
    let program = program_of c.args.program.now.program in
    let budget = budget_of (command_of c.args.command.now) in
    all_correct program budget (all_proved program c.budget.result budget c.in-Ok.report.verified c.in-Ok.report.text.items c.budget.ensures c.if-not-report.false c.in-Ok.ensures.report)

-- Main is run behind it
pub returns-clause-ends : goal.returns-clause-ends
returns-clause-ends g c = λ log err silent.
    let program = program_of c.args.program.now.program in
    let b = bulk_is (command_of c.args.command.now) c.requires.bulk in
    let report = c.in-Ok.report in
    let s : Streams = record { out = stream g.O.Sink c.args.out.now c.run_entry.new.out; err = err } in
    let far = last_far program c.budget.result usual report.verified report.last.items (c.budget.ensures ∙ ap (λ (x : Command). search_budget (budget_of x)) b.2) c.in-Ok.ensures.last in
    let last = last_verified program usual report.verified true report.last.items c.if-not-report.false far in
    let ended = c.run_entry.ensures.runs in
    subst (λ (x : Command). Ends (of_program x log program) s c.run_entry.result) (sym b.2)
    (run_ends program log s b.0 b.1 c.args.number (code_of c.args.code.now) report.last.items (g.O.Sink.taken c.put_line.new.sink)
    (record { proved = line_proves program usual report.last.items last; native = c.requires.native; compiled = c.requires.compiled }) last (verified_line program c.outcomes_are.ensures usual report.last.items last) (rw c.as_slice.ensures.value at c.in-Ok-put_line.ensures.put) silent
    ended.ran c.run_entry.result ended.end_is ended.runs (λ write. later _ _ _ c.put_line.ensures.keeps.counts (ended.rose write)))
