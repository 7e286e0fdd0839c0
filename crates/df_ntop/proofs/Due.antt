-- The status of a call is the one that is due.
use Rattle.std.proofs.Common.{◌≡◌, ◌⊎◌, ⊎_elim, inl, inr, ℕ, ◌≤◌, ◌<◌, true, false, List, [], length, Option, Some, None, refl, sym, subst, ◌∙◌, true≢false, arith}
use Rattle.df_base.specs.declared.pos.Pos.{Pos}
use Rattle.df_base.specs.declared.refusal.Refusal.{Refusal}
use Rattle.df_base.specs.declared.status.Status.{Status}
use Rattle.df_base.specs.declared.status.Status.TheVariants as statuses
use Rattle.df_form.specs.Log.{Step}
use Rattle.df_lang.specs.Native.{IsNative}
use Rattle.df_lang.specs.Program.{Program}
use Rattle.df_logtext.specs.BadLog.{IsText, IsBad}
use Rattle.df_ncmd.specs.Limits.{fuel_limit}
use Rattle.df_ncmd.specs.Line.{Budget, Command, Verify, Prove, Check, Build, Run, Bulk}
use Rattle.df_nmach.specs.Step as step
use Rattle.df_nmach.specs.Step.{Stepped}
use Rattle.df_nmach.specs.State as states
use Rattle.df_nmach.specs.State.{Code}
use Rattle.df_nerase.specs.Erasing.{method_number}
use Rattle.df_nerase.specs.First.{IsFirst, BrokenIsNotNative}
use Rattle.df_nfront.specs.Source.{IsLawful, IsUnlawful}
use Rattle.df_tok.specs.Limits.{byte_limit}
use Rattle.df_nfront.specs.Refused.{IsRefused}
use Rattle.df_npass.specs.Laws.{OneListOfObligations}
use Rattle.df_nproof.specs.Laws.{DerivedIsNotRefused}
use Rattle.df_report.specs.Report.{summary}
use Rattle.df_nproof.specs.Verified.{verified_outcomes}
use Rattle.df_ntop.specs.Call.{Call, IsLine, IsSourceOf}
use Rattle.df_ntop.specs.Command.{IsNoLine, IsFileOf, file_of, log_of, usual, compiles, runs}
use Rattle.df_ntop.specs.Entry.{HasNoEntry}
use Rattle.df_ntop.specs.Loaded.{IsLonger, LogFile, NoLog, IsLogFile}
use Rattle.df_ntop.specs.Headline.{Share, Whole, Spent, EntryRun}
use Rattle.df_ntop.specs.Answer.{ProvesBy, IsReady, IsBuilt, IsAccepted, OfLine, IsDone, IsSpent, IsUnproved, ProgramTells, not_native, no_main, too_large, not_a_log, bad_part, SourceTells, refused, lawful, FilesTell, unread, large, loaded, Tells, Answers}
use Rattle.df_ntop.specs.Complete.{HoldsSource, HoldsLog, IsCutShort, HasRun, IsDueOn, IsDue, IsDueOnFiles, IsComplete}
use Rattle.df_ntop.specs.Complete as complete
use Rattle.df_ntop.proofs.DueLogs.{same_bytes, longer_bytes, same_log, unlogged, proves_due, IsWrong, wrong_due, long_is_wrong, no_text_is_wrong, part_is_wrong}
use Rattle.df_ntop.proofs.Limits.{same_command}
use Rattle.df_ntop.proofs.Steps.{ends_later}

not_both : (a b : ℕ) → a ≤ b → b < a → ⊥
not_both a b = omega arith

one_way : (s : Stepped) (ended : _) (state : states.State) → s ≡ step.Ended ended → s ≡ step.On state → ⊥
one_way s ended state e o = cc

module _ (call : Call)
    (same_program : (source : List ℕ) (program other : Program) → IsLawful source program → IsLawful source other → program ≡ other)
    (unlawful : (source : List ℕ) (names : List (List ℕ)) (r : Refusal) → IsRefused source names r → IsUnlawful source)
    (broken : BrokenIsNotNative)
    (one_text : (names : List (List ℕ)) (one other : List (List Step)) (bytes : List ℕ) → IsText names one bytes → IsText names other bytes → one ≡ other)
    (no_text : (names : List (List ℕ)) (logs : List (List Step)) (bytes : List ℕ) (number : ℕ) → IsBad names bytes number → IsText names logs bytes → ⊥)
    (not_refused : DerivedIsNotRefused) (one_list : OneListOfObligations) where
  abbrev Due : Command → List ℕ → LogFile → Status → Type 0
  Due command source log status = IsDue command source log status call.out

  abbrev DueOn : Command → Program → LogFile → Status → Type 0
  DueOn command program log status = IsDueOn command program log status call.out

  abbrev OnFiles : Command → Status → Type 0
  OnFiles command status = IsDueOnFiles call.files command status call.out

  of_lawful : (command : Command) (source : List ℕ) (log : LogFile) (program : Program) (status : Status) → IsLawful source program → DueOn command program log status → Due command source log status
  of_lawful command source log program status is due = record {
    refused = λ names r h. absurd (unlawful source names r h program is);
    long = λ h. absurd (not_both (length source) byte_limit is.read.divided.short h);
    lawful = λ other h. subst (λ (p : Program). DueOn command p log status) (same_program source program other is h) due;
  }

  of_refused : (command : Command) (source : List ℕ) (log : LogFile) (names : List (List ℕ)) (r : Refusal) → IsRefused source names r → Due command source log statuses.Refused
  of_refused command source log names r why = record {
    refused = λ names r h. refl;
    long = λ h. refl;
    lawful = λ program is. absurd (unlawful source names r why program is);
  }

  of_long : (command : Command) (source : List ℕ) (log : LogFile) → byte_limit < length source → Due command source log statuses.Refused
  of_long command source log long = record {
    refused = λ names r h. refl;
    long = λ h. refl;
    lawful = λ program is. absurd (not_both (length source) byte_limit is.read.divided.short long);
  }

  -- ---- what ran

  -- it is accepted
  ran : (program : Program) (fuel : ℕ) (share : Share) (line : List ℕ) (budget : Budget) (code : Code) → IsBuilt program budget code → (run : EntryRun program code fuel share line call.out) → IsAccepted program budget run.number code run.runs.returned.store.text
  ran program fuel share line budget code built run = record { built = built; run = record { method = run.main; entry = run.entry; compiled = built.compiled; runs = run.runs; prints = refl } }

  done_run : (program : Program) (fuel : ℕ) (line : List ℕ) (budget : Budget) (code : Code) → IsBuilt program budget code → EntryRun program code fuel Whole line call.out → HasRun program budget fuel line statuses.Done call.out
  done_run program fuel line budget code built run = record {
    number = run.number;
    code = code;
    whole = run.runs.returned.store.text;
    accepted = ran program fuel Whole line budget code built run;
    enough = λ taken few h. (refl, run.put.1);
    short = λ h. absurd (h run.put.0);
  }

  spent_run : (program : Program) (fuel : ℕ) (line : List ℕ) (budget : Budget) (code : Code) → IsBuilt program budget code → EntryRun program code fuel Spent line call.out → HasRun program budget fuel line statuses.FuelSpent call.out
  spent_run program fuel line budget code built run =
      let unended = run.put.1 in
      record {
        number = run.number;
        code = code;
        whole = run.runs.returned.store.text;
        accepted = ran program fuel Spent line budget code built run;
        enough = λ taken few h. absurd (one_way _ _ unended.state (ends_later code (method_number program run.number) taken fuel run.runs.returned.store.text h few).within unended.on);
        short = λ h. refl;
      }

  -- ---- by commands, over the log that is there

  goes_on : (program : Program) (proof : Option (List ℕ)) (log : LogFile) (status : Status) (then_due : Type 0) → ProvesBy program log → then_due → complete.ProofIsDue program proof log status then_due
  goes_on program proof log status then_due proves go = proves_due one_text no_text not_refused one_list program proof log status then_due proves go

  done_due : (command : Command) → IsDone call command → OnFiles command statuses.Done
  done_due (Verify file budget) is =
      complete.on_source is.right.source NoLog is.right.loaded tt
      (of_lawful (Verify file budget) is.right.source NoLog is.right.program statuses.Done is.right.lawful (inr refl))
  done_due (Prove file budget) is =
      complete.on_source is.right.source NoLog is.right.loaded tt
      (of_lawful (Prove file budget) is.right.source NoLog is.right.program statuses.Done is.right.lawful (inr refl))
  done_due (Check file name) is =
      let by = is.by_log in
      complete.on_source is.right.source by.log is.right.loaded by.is_file
      (of_lawful (Check file name) is.right.source by.log is.right.program statuses.Done is.right.lawful
      (goes_on is.right.program (Some name) by.log statuses.Done (statuses.Done ≡ statuses.Done) by.proves refl))
  done_due (Build file proof budget) is =
      let by = is.by_log in
      complete.on_source is.accepted.source by.log is.accepted.loaded by.is_file
      (of_lawful (Build file proof budget) is.accepted.source by.log is.accepted.program statuses.Done is.accepted.lawful (record {
        not_native = λ h. absurd (h is.built.native);
        native = λ native. goes_on is.accepted.program proof by.log statuses.Done _ by.proves (record { code = is.accepted.code; built = is.built; done = refl; put = is.accepted.put.put });
      }))
  done_due (Run file proof budget fuel) is =
      let by = is.by_log in
      let run = is.accepted.put in
      complete.on_source is.accepted.source by.log is.accepted.loaded by.is_file
      (of_lawful (Run file proof budget fuel) is.accepted.source by.log is.accepted.program statuses.Done is.accepted.lawful (record {
        not_native = λ h. absurd (h is.built.native);
        no_main = λ native none. absurd (none run.number run.main run.entry);
        main = λ native number entry. goes_on is.accepted.program proof by.log statuses.Done _ by.proves (done_run is.accepted.program fuel [] budget is.accepted.code is.built run);
      }))
  done_due (Bulk seed count) is =
      let run = is.accepted.put in
      let line = summary (verified_outcomes is.accepted.program.decls) in
      complete.on_source is.accepted.source NoLog is.accepted.loaded tt
      (of_lawful (Bulk seed count) is.accepted.source NoLog is.accepted.program statuses.Done is.accepted.lawful (record {
        not_native = λ h. absurd (h is.built.native);
        no_main = λ native none. absurd (none run.number run.main run.entry);
        main = λ native number entry. inr (done_run is.accepted.program fuel_limit line usual is.accepted.code is.built run);
      }))

  spent_due : (command : Command) → IsSpent call command → OnFiles command statuses.FuelSpent
  spent_due (Verify file budget) is = absurd is
  spent_due (Prove file budget) is = absurd is
  spent_due (Check file name) is = absurd is
  spent_due (Build file proof budget) is = absurd is
  spent_due (Run file proof budget fuel) is =
      let by = is.by_log in
      let run = is.accepted.put in
      complete.on_source is.accepted.source by.log is.accepted.loaded by.is_file
      (of_lawful (Run file proof budget fuel) is.accepted.source by.log is.accepted.program statuses.FuelSpent is.accepted.lawful (record {
        not_native = λ h. absurd (h is.built.native);
        no_main = λ native none. absurd (none run.number run.main run.entry);
        main = λ native number entry. goes_on is.accepted.program proof by.log statuses.FuelSpent _ by.proves (spent_run is.accepted.program fuel [] budget is.accepted.code is.built run);
      }))
  spent_due (Bulk seed count) is =
      let run = is.accepted.put in
      let line = summary (verified_outcomes is.accepted.program.decls) in
      complete.on_source is.accepted.source NoLog is.accepted.loaded tt
      (of_lawful (Bulk seed count) is.accepted.source NoLog is.accepted.program statuses.FuelSpent is.accepted.lawful (record {
        not_native = λ h. absurd (h is.built.native);
        no_main = λ native none. absurd (none run.number run.main run.entry);
        main = λ native number entry. inr (spent_run is.accepted.program fuel_limit line usual is.accepted.code is.built run);
      }))

  unproved_due : (command : Command) → IsUnproved call command → OnFiles command statuses.Unproved
  unproved_due (Verify file budget) (is, silent) =
      complete.on_source is.source NoLog is.loaded tt
      (of_lawful (Verify file budget) is.source NoLog is.program statuses.Unproved is.lawful (inl refl))
  unproved_due (Prove file budget) (is, quiet) =
      complete.on_source is.source NoLog is.loaded tt
      (of_lawful (Prove file budget) is.source NoLog is.program statuses.Unproved is.lawful (inl refl))
  unproved_due (Check file name) is = absurd is
  unproved_due (Build file None budget) (is, quiet) =
      complete.on_source is.source NoLog is.loaded tt
      (of_lawful (Build file None budget) is.source NoLog is.program statuses.Unproved is.lawful (record {
        not_native = λ h. absurd (h (is.is.ready.native refl));
        native = λ native. inl refl;
      }))
  unproved_due (Build file (Some name) budget) is = absurd is
  unproved_due (Run file None budget fuel) (is, quiet) =
      let found = is.is.ready.entry refl in
      complete.on_source is.source NoLog is.loaded tt
      (of_lawful (Run file None budget fuel) is.source NoLog is.program statuses.Unproved is.lawful (record {
        not_native = λ h. absurd (h (is.is.ready.native refl));
        no_main = λ native none. absurd (none found.0 found.1.method found.1.entry);
        main = λ native number entry. inl refl;
      }))
  unproved_due (Run file (Some name) budget fuel) is = absurd is
  unproved_due (Bulk seed count) (is, silent) =
      let found = is.is.ready.entry refl in
      complete.on_source is.source NoLog is.loaded tt
      (of_lawful (Bulk seed count) is.source NoLog is.program statuses.Unproved is.lawful (record {
        not_native = λ h. absurd (h (is.is.ready.native refl));
        no_main = λ native none. absurd (none found.0 found.1.method found.1.entry);
        main = λ native number entry. inl refl;
      }))

  -- ---- lines

  not_native_due : (command : Command) (program : Program) (log : LogFile) (pos : Pos) (rule : ℕ) → compiles command ≡ true → IsFirst program pos rule → DueOn command program log statuses.NotCompilable
  not_native_due (Verify file budget) program log pos rule compiled first = absurd (true≢false (sym compiled))
  not_native_due (Prove file budget) program log pos rule compiled first = absurd (true≢false (sym compiled))
  not_native_due (Check file name) program log pos rule compiled first = absurd (true≢false (sym compiled))
  not_native_due (Build file proof budget) program log pos rule compiled first = record {
    not_native = λ h. refl;
    native = λ native. absurd (broken program pos rule first native);
  }
  not_native_due (Run file proof budget fuel) program log pos rule compiled first = record {
    not_native = λ h. refl;
    no_main = λ native none. absurd (broken program pos rule first native);
    main = λ native number entry. absurd (broken program pos rule first native);
  }
  not_native_due (Bulk seed count) program log pos rule compiled first = record {
    not_native = λ h. refl;
    no_main = λ native none. absurd (broken program pos rule first native);
    main = λ native number entry. absurd (broken program pos rule first native);
  }

  no_main_due : (command : Command) (program : Program) (log : LogFile) → runs command ≡ true → IsNative program → HasNoEntry program → DueOn command program log statuses.NoMain
  no_main_due (Verify file budget) program log run native none = absurd (true≢false (sym run))
  no_main_due (Prove file budget) program log run native none = absurd (true≢false (sym run))
  no_main_due (Check file name) program log run native none = absurd (true≢false (sym run))
  no_main_due (Build file proof budget) program log run native none = absurd (true≢false (sym run))
  no_main_due (Run file proof budget fuel) program log run native none = record {
    not_native = λ h. absurd (h native);
    no_main = λ native none. refl;
    main = λ native number entry. absurd (none number entry.method entry.entry);
  }
  no_main_due (Bulk seed count) program log run native none = record {
    not_native = λ h. absurd (h native);
    no_main = λ native none. refl;
    main = λ native number entry. absurd (none number entry.method entry.entry);
  }

  -- a log that is refused
  module _ (program : Program) (log : LogFile) (some : log ≡ NoLog → ⊥) (wrong : IsWrong one_text no_text not_refused one_list program log) where
    bad_proof_due : (proof : Option (List ℕ)) (then_due : Type 0) → IsLogFile call.files proof log → complete.ProofIsDue program proof log statuses.BadLog then_due
    bad_proof_due None then_due is = absurd (unlogged call.files log is some)
    bad_proof_due (Some name) then_due is = wrong_due one_text no_text not_refused one_list program log then_due wrong

    bad_log_due : (command : Command) → IsReady command program → IsLogFile call.files (log_of command) log → DueOn command program log statuses.BadLog
    bad_log_due (Verify file budget) ready is = absurd (unlogged call.files log is some)
    bad_log_due (Prove file budget) ready is = absurd (unlogged call.files log is some)
    bad_log_due (Check file name) ready is = wrong_due one_text no_text not_refused one_list program log (statuses.BadLog ≡ statuses.Done) wrong
    bad_log_due (Build file proof budget) ready is = record {
      not_native = λ h. absurd (h (ready.native refl));
      native = λ native. bad_proof_due proof _ is;
    }
    bad_log_due (Run file proof budget fuel) ready is =
        let found = ready.entry refl in
        record {
          not_native = λ h. absurd (h (ready.native refl));
          no_main = λ native none. absurd (none found.0 found.1.method found.1.entry);
          main = λ native number entry. bad_proof_due proof _ is;
        }
    bad_log_due (Bulk seed count) ready is = absurd (unlogged call.files log is some)

  program_due : (command : Command) (program : Program) (log : LogFile) (status : Status) (line : List ℕ) → IsLogFile call.files (log_of command) log → ProgramTells program command log status line → DueOn command program log status
  program_due command program log status line is (not_native pos rule compiled first) = not_native_due command program log pos rule compiled first
  program_due command program log status line is (no_main run native none) = no_main_due command program log run native none
  program_due command program log status line is (too_large ready long) =
      bad_log_due program log (λ e. absurd cc) (long_is_wrong one_text no_text not_refused one_list program log long) command ready is
  program_due command program log status line is (not_a_log bytes number ready there bad) =
      bad_log_due program log (λ e. absurd cc) (no_text_is_wrong one_text no_text not_refused one_list program log bytes number there bad) command ready is
  program_due command program log status line is (bad_part bytes obligation place ready there bad) =
      bad_log_due program log (λ e. absurd cc) (part_is_wrong one_text no_text not_refused one_list program log bytes obligation place there bad) command ready is

  -- ---- with a source, the files and the words

  source_due : (command : Command) (source : List ℕ) (log : LogFile) (status : Status) (line : List ℕ) → IsLogFile call.files (log_of command) log → SourceTells source command log status line → Due command source log status
  source_due command source log status line is_log (refused names r why) = of_refused command source log names r why
  source_due command source log status line is_log (lawful program is told) = of_lawful command source log program status is (program_due command program log status line is_log told)

  files_due : (command : Command) (status : Status) (line : List ℕ) → FilesTell call.files command status line → IsCutShort status ⊎ OnFiles command status
  files_due command status line (unread name named rose) = inl complete.unread
  files_due command status line (large loads none long) = inr (complete.for_length loads none long refl)
  files_due command status line (loaded source log is is_log told) = inr (complete.on_source source log is is_log (source_due command source log status line is_log told))

  module _ (command : Command) (line : IsLine call.words command) where
    of_line : (is : Command → Type 0) → OfLine call.words is → is command
    of_line is h = subst is (same_command call.words h.command command h.line line) h.holds

    of_tells : (status : Status) (text : List ℕ) → Tells call status text → IsCutShort status ⊎ OnFiles command status
    of_tells status text tells = files_due command status text (of_line (λ (c : Command). FilesTell call.files c status text) tells)

    is_due : (status : Status) → Answers call status → IsCutShort status ⊎ OnFiles command status
    is_due statuses.Done a = inr (done_due command (of_line (IsDone call) a.0))
    is_due statuses.Unproved a = inr (unproved_due command (of_line (IsUnproved call) a))
    is_due statuses.Usage a = absurd (a.0 command line)
    is_due statuses.Refused a = of_tells statuses.Refused a.0 a.1
    is_due statuses.Unread a = inl complete.unread
    is_due statuses.Unwritten a = inl complete.unwritten
    is_due statuses.Memory a = inl complete.memory
    is_due statuses.FuelSpent a = inr (spent_due command (of_line (IsSpent call) a.0))
    is_due statuses.NotCompilable a = of_tells statuses.NotCompilable a.0 a.1
    is_due statuses.NoMain a = of_tells statuses.NoMain a.0 a.1
    is_due statuses.BadLog a = of_tells statuses.BadLog a.0 a.1

  -- ---- where the files tell what they hold, that is what they gave

  same_source : (command : Command) (source other : List ℕ) → IsSourceOf call.files command other → HoldsSource call.files.held command source → other ≡ source
  same_source (Verify file budget) source other is there = same_bytes call.files.held file other source is.held there
  same_source (Prove file budget) source other is there = same_bytes call.files.held file other source is.held there
  same_source (Check file log) source other is there = same_bytes call.files.held file other source is.held there
  same_source (Build file proof budget) source other is there = same_bytes call.files.held file other source is.held there
  same_source (Run file proof budget fuel) source other is there = same_bytes call.files.held file other source is.held there
  same_source (Bulk seed count) source other is there = is ∙ sym there

  large_of : (command : Command) (source : List ℕ) → IsFileOf command (file_of command) → HoldsSource call.files.held command source → IsLonger byte_limit call.files.held (file_of command) → byte_limit < length source
  large_of (Verify file budget) source loads there long = longer_bytes byte_limit call.files.held file source long there
  large_of (Prove file budget) source loads there long = longer_bytes byte_limit call.files.held file source long there
  large_of (Check file name) source loads there long = longer_bytes byte_limit call.files.held file source long there
  large_of (Build file proof budget) source loads there long = longer_bytes byte_limit call.files.held file source long there
  large_of (Run file proof budget fuel) source loads there long = longer_bytes byte_limit call.files.held file source long there
  large_of (Bulk seed count) source loads there long = absurd loads

  module _ (command : Command) (source : List ℕ) (log : LogFile) (there : HoldsSource call.files.held command source) (there_log : HoldsLog call.files.held (log_of command) log) where
    of_source : (other : List ℕ) (status : Status) → IsSourceOf call.files command other → Due command other log status → Due command source log status
    of_source other status is due = subst (λ (x : List ℕ). Due command x log status) (same_source command source other is there) due

    of_both : (other : List ℕ) (other_log : LogFile) (status : Status) → IsSourceOf call.files command other → IsLogFile call.files (log_of command) other_log → Due command other other_log status → Due command source log status
    of_both other other_log status is is_log due =
        of_source other status is (subst (λ (l : LogFile). Due command other l status) (same_log call.files (log_of command) log other_log is_log there_log) due)

    due_of_held : (status : Status) → OnFiles command status → Due command source log status
    due_of_held status (complete.on_source other other_log is is_log due) = of_both other other_log status is is_log due
    due_of_held status (complete.for_length loads none long is) =
        subst (λ (x : Status). Due command source log x) (sym is) (of_long command source log (large_of command source loads there long))

    due_or_cut_short : (status : Status) → IsCutShort status ⊎ OnFiles command status → IsCutShort status ⊎ Due command source log status
    due_or_cut_short status due = ⊎_elim inl (λ on. inr (due_of_held status on)) due

  -- ---- words that are no line

  no_line : (status : Status) → Answers call status → IsNoLine call.words → (status ≡ statuses.Usage) ⊎ ((status ≡ statuses.Unwritten) ⊎ (status ≡ statuses.Memory))
  no_line statuses.Done a none = absurd (none a.0.command a.0.line)
  no_line statuses.Unproved a none = absurd (none a.command a.line)
  no_line statuses.Usage a none = inl refl
  no_line statuses.Refused a none = absurd (none a.1.command a.1.line)
  no_line statuses.Unread a none = absurd (none a.1.command a.1.line)
  no_line statuses.Unwritten a none = inr (inl refl)
  no_line statuses.Memory a none = inr (inr refl)
  no_line statuses.FuelSpent a none = absurd (none a.0.command a.0.line)
  no_line statuses.NotCompilable a none = absurd (none a.1.command a.1.line)
  no_line statuses.NoMain a none = absurd (none a.1.command a.1.line)
  no_line statuses.BadLog a none = absurd (none a.1.command a.1.line)

  pub is_complete : (status : Status) → Answers call status → IsComplete call status
  is_complete status a = record {
    no_line = no_line status a;
    due = λ command line. is_due command line status a;
    held = λ command source log line there there_log. due_or_cut_short command source log there there_log status (is_due command line status a);
  }
