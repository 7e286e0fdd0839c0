use Rattle.std.proofs.Common.{List, Bool, map, ap, inl, refl, subst, sym, ◌∙◌}
use Rattle.df_lang.specs.View.{program_of}
use Rattle.df_ncmd.specs.View.{command_of}
use Rattle.df_report.specs.declared.outcome.Outcome.{Outcome}
use Rattle.df_report.specs.View.{outcome_of}
use Rattle.df_ntop.specs.Call.{Streams, stream}
use Rattle.df_ntop.specs.Command.{log_of, log_name_of, usual}
use Rattle.df_ntop.specs.Ending.{PutsText}
use Rattle.df_ntop.specs.Proving.{Reports}
use Rattle.df_ntop.specs.View.{log_file_of}
use Rattle.df_ntop.proofs.Checked.{is_told}
use Rattle.df_ntop.proofs.Programs.{check_ends, ready_to_check}
use Rattle.df_ntop.proofs.judging.check_file.Goals as goal

pub check_log-requires-clause-ready : goal.check_log-requires-clause-ready
check_log-requires-clause-ready g c =
    let command = command_of c.args.command.now in
    ready_to_check (program_of c.args.program.now.program) command (log_name_of command) c.requires.check

pub check_log-requires-clause-there : goal.check_log-requires-clause-there
check_log-requires-clause-there g c = λ none. let same = sym (ap log_of c.requires.check) ∙ none in absurd cc

pub returns-in-Err-clause-ends : goal.returns-in-Err-clause-ends
returns-in-Err-clause-ends g c = λ err silent. c.in-Err.ensures.ends (record { out = stream g.O.Sink c.args.out.now c.args.out.now; err = err }) (refl, silent)

pub returns-in-Ok-report_on-clause-ends : goal.returns-in-Ok-report_on-clause-ends
returns-in-Ok-report_on-clause-ends g c = λ err silent.
    let program = program_of c.args.program.now.program in
    let command = command_of c.args.command.now in
    let s : Streams = record { out = stream g.O.Sink c.args.out.now c.put_report.new.sink; err = err } in
    let report = c.in-Ok-report_on.report in
    let outcomes = map outcome_of c.in-Ok.outcomes.items in
    let told = subst (λ (os : List Outcome). Reports (map outcome_of os) report.verified report.text.items report.last.items) c.as_slice.ensures.value c.in-Ok-report_on.ensures in
    let all = told.verified_is ∙ c.in-Ok.ensures.verified in
    check_ends program (log_file_of c.args.log.now) s command (log_name_of command) report.text.items c.put_report.result c.requires.check
    (is_told program usual outcomes report.text.items (c.in-Ok.ensures.verdict usual) c.in-Ok.ensures.verified told.text_is) c.in-Ok.ensures.proves
    (subst (λ (b : Bool). PutsText b report.text.items s.out c.put_report.result) all c.put_report.ensures.puts) silent

pub returns-clause-ends : goal.returns-clause-ends
returns-clause-ends g c = λ err silent. inl (refl, silent)
