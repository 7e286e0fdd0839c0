-- What a command has put, as the table of answers tells it.
use Rattle.std.proofs.Common.{◌≡◌, inl, inr, ℕ, true, List, [], ◌++◌, Option, None, Some, sym, subst}
use Rattle.df_base.specs.Outside.{AppendsPrefix}
use Rattle.df_lang.specs.Program.{Program}
use Rattle.df_ncmd.specs.Limits.{fuel_limit}
use Rattle.df_ncmd.specs.Line.{Budget, Command, Verify, Prove, Check, Build, Run, Bulk}
use Rattle.df_meaning.specs.Correct.{AreCorrect}
use Rattle.df_nmach.specs.State.{Code}
use Rattle.df_nerase.specs.Erasing.{method_number}
use Rattle.df_nfront.specs.Source.{IsLawful}
use Rattle.df_report.specs.Report.{summary}
use Rattle.df_nproof.specs.Verified.{verified_outcomes}
use Rattle.df_ntop.specs.Call.{Store, Stream, Streams, Call, Takes, TakesPrefix, IsSourceOf}
use Rattle.df_ntop.specs.Command.{log_of, budget_of, usual}
use Rattle.df_ntop.specs.Loaded.{LogFile, NoLog, TooLong, Log, IsLogFile}
use Rattle.df_ntop.specs.Headline.{Share, Whole, Spent, Part, HasPut, EntryRun, IsPut, CorrectSource}
use Rattle.df_ntop.specs.Answer.{ProvesBy, IsByLog, IsBuilt, IsAccepted, Proved, Puts, IsDone, IsSpent, IsUnproved, IsPartOnOut, IsPartOnErr}
use Rattle.df_ntop.specs.Ending.{IsDoneText, IsSpentText, IsOutReport, IsErrReport, IsOutText, of_files}
use Rattle.df_ntop.proofs.Texts.{part_of_whole, behind_line}

module _ (words : List (List ℕ)) (files : Store) (s : Streams) (err : Stream) where
  abbrev here : Call
  here = record { words = words; files = files; out = s.out; err = err }

  by_log : (command : Command) (log : LogFile) (program : Program) → IsLogFile files (log_of command) log → ProvesBy program log → IsByLog files command program
  by_log command log program is proves = record { log = log; is_file = is; proves = proves }

  -- bulk has no log
  proves_unlogged : (program : Program) (log : LogFile) → IsLogFile files None log → ProvesBy program log
  proves_unlogged program NoLog is = tt
  proves_unlogged program TooLong is = absurd is
  proves_unlogged program (Log bytes) is = absurd is

  -- what the headline promises
  proved : (command : Command) (share : Share) (source : List ℕ) (log : LogFile) (program : Program) (code : Code) → IsSourceOf files command source → IsLogFile files (log_of command) log → IsLawful source program → IsBuilt program (budget_of command) code → ProvesBy program log → IsPut command share program code s.out → Proved here command share
  proved command share source log program code there is_log is built proves put =
      let correct = built.proved.verdict.correct built.proved.verified in
      record {
        accepted = record {
          source = source;
          loaded = there;
          program = program;
          lawful = is;
          correct = correct;
          code = code;
          emitted = built.compiled.is;
          runs = λ number method at arguments typed meets. built.compiled.runs number method at (correct number method at) arguments typed meets;
          put = put;
        };
        built = built;
        by_log = by_log command log program is_log proves;
      }

  entry_run : (program : Program) (budget : Budget) (fuel : ℕ) (share : Share) (line : List ℕ) (number : ℕ) (code : Code) (text : List ℕ) → IsAccepted program budget number code text → HasPut share line code (method_number program number) fuel text s.out → EntryRun program code fuel share line s.out
  entry_run program budget fuel share line number code text a put = record {
    number = number;
    main = a.run.method;
    entry = a.run.entry;
    runs = a.run.runs;
    put = subst (λ (t : List ℕ). HasPut share line code (method_number program number) fuel t s.out) (sym a.run.prints) put;
  }

  abbrev correct_source : (command : Command) (source : List ℕ) (program : Program) → IsSourceOf files command source → IsLawful source program → AreCorrect program → CorrectSource here command
  correct_source command source program there is correct = record { source = source; loaded = there; program = program; lawful = is; correct = correct }

  puts : (command : Command) (source : List ℕ) (program : Program) (text : List ℕ) (is_of : Program → List ℕ → Type 0) (put : List ℕ → Type 0) → IsSourceOf files command source → IsLawful source program → is_of program text → put text → Puts here command is_of put
  puts command source program text is_of put there is told was_put = record { source = source; loaded = there; program = program; lawful = is; text = text; is = told; was_put = was_put }

  -- ---- a whole text

  pub done_row : (command : Command) → (of_files command files).puts IsDoneText (Takes s.out) → IsDone here command
  done_row (Verify file budget) (source, log, there, is_log, (program, is, (text, report, put))) = record {
    right = correct_source (Verify file budget) source program there is (report.verdict.correct report.verified_is);
    text = text;
    report = report;
    by_log = by_log (Verify file budget) log program is_log (proves_unlogged program log is_log);
    put = put;
  }
  done_row (Prove file budget) (source, log, there, is_log, (program, is, (text, logs, put))) = record {
    right = correct_source (Prove file budget) source program there is logs.correct;
    text = text;
    logs = logs;
    put = put;
  }
  done_row (Check file name) (source, log, there, is_log, (program, is, (text, (report, proves), put))) = record {
    right = correct_source (Check file name) source program there is (report.verdict.correct report.verified_is);
    text = text;
    report = report;
    by_log = by_log (Check file name) log program is_log proves;
    put = put;
  }
  done_row (Build file proof budget) (source, log, there, is_log, (program, is, (text, (whole, proves), put))) =
      let listing = whole.listing in
      proved (Build file proof budget) Whole source log program listing.code there is_log is listing.built proves (record { put = subst (Takes s.out) listing.text_is put; ordinary = whole.ordinary; only = whole.only })
  done_row (Run file proof budget fuel) (source, log, there, is_log, (program, is, (text, (ran, proves), put))) =
      proved (Run file proof budget fuel) Whole source log program ran.code there is_log is ran.accepted.built proves (entry_run program budget fuel Whole [] ran.number ran.code text ran.accepted (ran.ended, put))
  done_row (Bulk seed count) (source, log, there, is_log, (program, is, (text, b, put))) =
      let ran = b.is_rest in
      let line = summary (verified_outcomes program.decls) in
      let there_put = subst (Takes s.out) b.text_is put in
      proved (Bulk seed count) Whole source log program ran.code there is_log is ran.accepted.built (proves_unlogged program log is_log)
      (entry_run program usual fuel_limit Whole line ran.number ran.code b.rest ran.accepted (ran.ended, there_put))

  pub spent_row : (command : Command) → (of_files command files).puts IsSpentText (Takes s.out) → IsSpent here command
  spent_row (Verify file budget) (source, log, there, is_log, (program, is, (text, never, put))) = absurd never
  spent_row (Prove file budget) (source, log, there, is_log, (program, is, (text, never, put))) = absurd never
  spent_row (Check file name) (source, log, there, is_log, (program, is, (text, never, put))) = absurd never
  spent_row (Build file proof budget) (source, log, there, is_log, (program, is, (text, never, put))) = absurd never
  spent_row (Run file proof budget fuel) (source, log, there, is_log, (program, is, (text, (ran, proves), put))) =
      proved (Run file proof budget fuel) Spent source log program ran.code there is_log is ran.accepted.built proves (entry_run program budget fuel Spent [] ran.number ran.code ran.whole ran.accepted (text, ran.unended, put))
  spent_row (Bulk seed count) (source, log, there, is_log, (program, is, (text, b, put))) =
      let ran = b.is_rest in
      let line = summary (verified_outcomes program.decls) in
      let there_put = subst (Takes s.out) b.text_is put in
      proved (Bulk seed count) Spent source log program ran.code there is_log is ran.accepted.built (proves_unlogged program log is_log)
      (entry_run program usual fuel_limit Spent line ran.number ran.code ran.whole ran.accepted (b.rest, ran.unended, there_put))

  -- ---- a part of one

  pub part_row : (command : Command) → (of_files command files).puts IsOutText (TakesPrefix s.out) → IsPartOnOut here command
  part_row (Verify file budget) (source, log, there, is_log, (program, is, (text, report, put))) = puts (Verify file budget) source program text _ _ there is report put
  part_row (Prove file budget) (source, log, there, is_log, (program, is, (text, logs, put))) = puts (Prove file budget) source program text _ _ there is logs put
  part_row (Check file name) (source, log, there, is_log, (program, is, (text, (report, proves), put))) =
      puts (Check file name) source program text _ _ there is (report, by_log (Check file name) log program is_log proves) put
  part_row (Build file proof budget) (source, log, there, is_log, (program, is, (text, (listing, proves), put))) =
      proved (Build file proof budget) Part source log program listing.code there is_log is listing.built proves (subst (TakesPrefix s.out) listing.text_is put)
  part_row (Run file proof budget fuel) (source, log, there, is_log, (program, is, (text, ((number, code, a), proves), put))) =
      proved (Run file proof budget fuel) Part source log program code there is_log is a.built proves (entry_run program budget fuel Part [] number code text a put)
  part_row (Bulk seed count) (source, log, there, is_log, (program, is, (text, inl last, put))) = inl (puts (Bulk seed count) source program text _ _ there is last put)
  part_row (Bulk seed count) (source, log, there, is_log, (program, is, (text, inr b, put))) =
      let main = b.is_rest in
      let line = summary (verified_outcomes program.decls) in
      let there_put = subst (TakesPrefix s.out) b.text_is put in
      inr (proved (Bulk seed count) Part source log program main.1 there is_log is main.2.built (proves_unlogged program log is_log)
      (entry_run program usual fuel_limit Part line main.0 main.1 b.rest main.2 there_put))

  -- the text so far of a run is a prefix of its whole text
  pub spent_part_row : (command : Command) → (of_files command files).puts IsSpentText (Takes s.out) → IsPartOnOut here command
  spent_part_row (Verify file budget) (source, log, there, is_log, (program, is, (text, never, put))) = absurd never
  spent_part_row (Prove file budget) (source, log, there, is_log, (program, is, (text, never, put))) = absurd never
  spent_part_row (Check file name) (source, log, there, is_log, (program, is, (text, never, put))) = absurd never
  spent_part_row (Build file proof budget) (source, log, there, is_log, (program, is, (text, never, put))) = absurd never
  spent_part_row (Run file proof budget fuel) (source, log, there, is_log, (program, is, (text, (ran, proves), put))) =
      let part = part_of_whole s.out.old s.out.new ran.whole text ran.unended.more ran.unended.is_part put in
      proved (Run file proof budget fuel) Part source log program ran.code there is_log is ran.accepted.built proves (entry_run program budget fuel Part [] ran.number ran.code ran.whole ran.accepted part)
  spent_part_row (Bulk seed count) (source, log, there, is_log, (program, is, (text, b, put))) =
      let ran = b.is_rest in
      let line = summary (verified_outcomes program.decls) in
      let there_put = subst (Takes s.out) b.text_is put in
      let part = part_of_whole s.out.old s.out.new (line ++ ran.whole) (line ++ b.rest) ran.unended.more (behind_line line ran.whole b.rest ran.unended.more ran.unended.is_part) there_put in
      inr (proved (Bulk seed count) Part source log program ran.code there is_log is ran.accepted.built (proves_unlogged program log is_log)
      (entry_run program usual fuel_limit Part line ran.number ran.code ran.whole ran.accepted part))

  -- ---- reports with a failure

  pub out_report_row : (command : Command) → (of_files command files).puts IsOutReport (Takes s.out) → err.new ≡ err.old → IsUnproved here command
  out_report_row (Verify file budget) (source, log, there, is_log, (program, is, (text, report, put))) silent = (puts (Verify file budget) source program text _ _ there is report put, silent)
  out_report_row (Prove file budget) (source, log, there, is_log, (program, is, (text, never, put))) silent = absurd never
  out_report_row (Check file name) (source, log, there, is_log, (program, is, (text, never, put))) silent = absurd never
  out_report_row (Build file proof budget) (source, log, there, is_log, (program, is, (text, never, put))) silent = absurd never
  out_report_row (Run file proof budget fuel) (source, log, there, is_log, (program, is, (text, never, put))) silent = absurd never
  out_report_row (Bulk seed count) (source, log, there, is_log, (program, is, (text, brief, put))) silent = (puts (Bulk seed count) source program text _ _ there is brief put, silent)

  pub err_report_row : (command : Command) → (of_files command files).puts IsErrReport (Takes err) → s.out.new ≡ s.out.old → IsUnproved here command
  err_report_row (Verify file budget) (source, log, there, is_log, (program, is, (text, never, put))) quiet = absurd never
  err_report_row (Prove file budget) (source, log, there, is_log, (program, is, (text, report, put))) quiet = (puts (Prove file budget) source program text _ _ there is report put, quiet)
  err_report_row (Check file name) (source, log, there, is_log, (program, is, (text, never, put))) quiet = absurd never
  err_report_row (Build file None budget) (source, log, there, is_log, (program, is, (text, report, put))) quiet = (puts (Build file None budget) source program text _ _ there is report put, quiet)
  err_report_row (Build file (Some name) budget) (source, log, there, is_log, (program, is, (text, never, put))) quiet = absurd never
  err_report_row (Run file None budget fuel) (source, log, there, is_log, (program, is, (text, report, put))) quiet = (puts (Run file None budget fuel) source program text _ _ there is report put, quiet)
  err_report_row (Run file (Some name) budget fuel) (source, log, there, is_log, (program, is, (text, never, put))) quiet = absurd never
  err_report_row (Bulk seed count) (source, log, there, is_log, (program, is, (text, never, put))) quiet = absurd never

  pub report_part_row : (middle : Option (List ℕ)) (command : Command) → (of_files command files).puts IsErrReport (AppendsPrefix err.old middle) → s.out.new ≡ s.out.old → IsPartOnErr here middle command
  report_part_row middle (Verify file budget) (source, log, there, is_log, (program, is, (text, never, put))) quiet = absurd never
  report_part_row middle (Prove file budget) (source, log, there, is_log, (program, is, (text, report, put))) quiet = (puts (Prove file budget) source program text _ _ there is report put, quiet)
  report_part_row middle (Check file name) (source, log, there, is_log, (program, is, (text, never, put))) quiet = absurd never
  report_part_row middle (Build file None budget) (source, log, there, is_log, (program, is, (text, report, put))) quiet = (puts (Build file None budget) source program text _ _ there is report put, quiet)
  report_part_row middle (Build file (Some name) budget) (source, log, there, is_log, (program, is, (text, never, put))) quiet = absurd never
  report_part_row middle (Run file None budget fuel) (source, log, there, is_log, (program, is, (text, report, put))) quiet = (puts (Run file None budget fuel) source program text _ _ there is report put, quiet)
  report_part_row middle (Run file (Some name) budget fuel) (source, log, there, is_log, (program, is, (text, never, put))) quiet = absurd never
  report_part_row middle (Bulk seed count) (source, log, there, is_log, (program, is, (text, never, put))) quiet = absurd never
