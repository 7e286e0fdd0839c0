-- Completeness: the status that is due for the words, and for the bytes that the files gave of the source and of the log. A
-- counted fault or want of memory may end the call before.
use Rattle.std.specs.Prelude.{◌≡◌, ◌⊎◌, ◌<◌, ◌≤◌, ℕ, List, [], ◌++◌, Option, None, Some, length}
use Rattle.df_base.specs.Outside.{Contents, bytes_of}
use Rattle.df_base.specs.declared.refusal.Refusal.{Refusal}
use Rattle.df_base.specs.declared.status.Status.{Status}
use Rattle.df_base.specs.declared.status.Status.TheVariants as statuses
use Rattle.df_form.specs.Log.{Step}
use Rattle.df_lang.specs.Native.{IsNative}
use Rattle.df_lang.specs.Program.{Program}
use Rattle.df_logtext.specs.BadLog.{IsText}
use Rattle.df_ncmd.specs.Limits.{fuel_limit}
use Rattle.df_ncmd.specs.Line.{Budget, Command, Verify, Prove, Check, Build, Run, Bulk}
use Rattle.df_nmach.specs.State.{Code}
use Rattle.df_listing.specs.Listing.{listing_text}
use Rattle.df_nerase.specs.Erasing.{method_number}
use Rattle.df_nfront.specs.Source.{IsLawful}
use Rattle.df_tok.specs.Limits.{byte_limit}
use Rattle.df_nfront.specs.Refused.{IsRefused}
use Rattle.df_gen.specs.GeneratedSource.{generated_source}
use Rattle.df_nproof.specs.Names.{names_in}
use Rattle.df_nproof.specs.Derived.{AreProofs}
use Rattle.df_report.specs.Report.{summary}
use Rattle.df_nproof.specs.Verified.{verified_outcomes}
use Rattle.df_ntop.specs.Call.{Store, Stream, Call, Takes, IsLine, IsSourceOf, HasEnded}
use Rattle.df_ntop.specs.Command.{IsNoLine, IsFileOf, file_of, log_of, usual}
use Rattle.df_ntop.specs.Entry.{IsEntryAt, HasNoEntry}
use Rattle.df_ntop.specs.Loaded.{IsLonger, log_limit, LogFile, NoLog, TooLong, Log, IsLogFile}
use Rattle.df_ntop.specs.Answer.{IsBuilt, IsAccepted, IsWithoutSource}

-- the files tell that these are the bytes of the file
abbrev pub Holds : Option Contents → List ℕ → List ℕ → Type 0
Holds held name bytes = (files : Contents) × (held ≡ Some files) × (bytes_of files name ≡ Some bytes)

-- that these are those of the source of a command; those of bulk are made
abbrev pub HoldsSource : Option Contents → Command → List ℕ → Type 0
HoldsSource held (Verify file budget) source = Holds held file source
HoldsSource held (Prove file budget) source = Holds held file source
HoldsSource held (Check file log) source = Holds held file source
HoldsSource held (Build file proof budget) source = Holds held file source
HoldsSource held (Run file proof budget fuel) source = Holds held file source
HoldsSource held (Bulk seed count) source = source ≡ generated_source seed count

-- and that this is there of its log
abbrev pub HoldsLog : Option Contents → Option (List ℕ) → LogFile → Type 0
HoldsLog held None NoLog = Unit {0}
HoldsLog held None TooLong = ⊥
HoldsLog held None (Log bytes) = ⊥
HoldsLog held (Some name) NoLog = ⊥
HoldsLog held (Some name) TooLong = (bytes : List ℕ) × Holds held name bytes × (log_limit < length bytes)
HoldsLog held (Some name) (Log bytes) = Holds held name bytes × (length bytes ≤ log_limit)

pub data IsCutShort : Status → Type 0 where
  unread : IsCutShort statuses.Unread
  unwritten : IsCutShort statuses.Unwritten
  memory : IsCutShort statuses.Memory

-- ---- with a log

-- What is due by the log: it is refused where it is too long, the text of no logs, or the text of logs that do not derive the
-- obligations, one each. Where they do, what comes of a proof is due.
pub record LogIsDue (program : Program) (log : LogFile) (status : Status) (goes_on : Type 0) : Type 0 where
  pub too_large : log ≡ TooLong → status ≡ statuses.BadLog
  pub not_a_log : (bytes : List ℕ) → log ≡ Log bytes → ((logs : List (List Step)) → IsText (names_in program) logs bytes → ⊥) → status ≡ statuses.BadLog
  pub not_derived : (bytes : List ℕ) (logs : List (List Step)) → log ≡ Log bytes → IsText (names_in program) logs bytes → (AreProofs program logs → ⊥) → status ≡ statuses.BadLog
  pub derived : (bytes : List ℕ) (logs : List (List Step)) → log ≡ Log bytes → IsText (names_in program) logs bytes → AreProofs program logs → goes_on

-- without a log all is proved, or the report tells of a failure
abbrev pub ProofIsDue : Program → Option (List ℕ) → LogFile → Status → Type 0 → Type 0
ProofIsDue program None log status goes_on = (status ≡ statuses.Unproved) ⊎ goes_on
ProofIsDue program (Some name) log status goes_on = LogIsDue program log status goes_on

-- ---- by commands

-- all is proved, and the listing of the code is put
pub record HasBuilt (program : Program) (budget : Budget) (status : Status) (out : Stream) : Type 0 where
  pub code : Code
  pub built : IsBuilt program budget code
  pub done : status ≡ statuses.Done
  pub put : Takes out (listing_text code)

-- what build is due on a program
pub record BuildIsDue (program : Program) (proof : Option (List ℕ)) (log : LogFile) (budget : Budget) (status : Status) (out : Stream) : Type 0 where
  pub not_native : (IsNative program → ⊥) → status ≡ statuses.NotCompilable
  pub native : IsNative program → ProofIsDue program proof log status (HasBuilt program budget status out)

-- Main was run: the whole text is there, behind a line, where its code, the emitted one, ends within the fuel, and else the
-- fuel is spent.
pub record HasRun (program : Program) (budget : Budget) (fuel : ℕ) (line : List ℕ) (status : Status) (out : Stream) : Type 0 where
  pub number : ℕ
  pub code : Code
  pub whole : List ℕ
  pub accepted : IsAccepted program budget number code whole
  pub enough : (taken : ℕ) → taken ≤ fuel → HasEnded code (method_number program number) taken whole → (status ≡ statuses.Done) × Takes out (line ++ whole)
  pub short : (HasEnded code (method_number program number) fuel whole → ⊥) → status ≡ statuses.FuelSpent

-- what run and bulk are due on a program, where this comes of a run
pub record RunIsDue (program : Program) (proof : Option (List ℕ)) (log : LogFile) (status : Status) (has_run : Type 0) : Type 0 where
  pub not_native : (IsNative program → ⊥) → status ≡ statuses.NotCompilable
  pub no_main : IsNative program → HasNoEntry program → status ≡ statuses.NoMain
  pub main : IsNative program → (number : ℕ) → IsEntryAt program number → ProofIsDue program proof log status has_run

-- what a command is due on a program
abbrev pub IsDueOn : Command → Program → LogFile → Status → Stream → Type 0
IsDueOn (Verify file budget) program log status out = (status ≡ statuses.Unproved) ⊎ (status ≡ statuses.Done)
IsDueOn (Prove file budget) program log status out = (status ≡ statuses.Unproved) ⊎ (status ≡ statuses.Done)
IsDueOn (Check file name) program log status out = LogIsDue program log status (status ≡ statuses.Done)
IsDueOn (Build file proof budget) program log status out = BuildIsDue program proof log budget status out
IsDueOn (Run file proof budget fuel) program log status out = RunIsDue program proof log status (HasRun program budget fuel [] status out)
IsDueOn (Bulk seed count) program log status out = RunIsDue program None log status (HasRun program usual fuel_limit (summary (verified_outcomes program.decls)) status out)

-- what a command is due on a source: a source that breaks a rule or is too long is refused
pub record IsDue (command : Command) (source : List ℕ) (log : LogFile) (status : Status) (out : Stream) : Type 0 where
  pub refused : (names : List (List ℕ)) (r : Refusal) → IsRefused source names r → status ≡ statuses.Refused
  pub long : byte_limit < length source → status ≡ statuses.Refused
  pub lawful : (program : Program) → IsLawful source program → IsDueOn command program log status out

-- What a command is due on what its files gave in the call: on the source and the log that they gave, or, where they gave no
-- source since it is too long, a refusal. Of files that do not tell what they hold it says as much as of others.
pub data IsDueOnFiles (files : Store) (command : Command) (status : Status) (out : Stream) : Type 0 where
  on_source : (source : List ℕ) (log : LogFile) → IsSourceOf files command source → IsLogFile files (log_of command) log → IsDue command source log status out → IsDueOnFiles files command status out
  for_length : IsFileOf command (file_of command) → IsWithoutSource files command → IsLonger byte_limit files.held (file_of command) → status ≡ statuses.Refused → IsDueOnFiles files command status out

-- what words that are no line of any command are due, and the others on what their files gave
pub record IsComplete (call : Call) (status : Status) : Type 0 where
  pub no_line : IsNoLine call.words → (status ≡ statuses.Usage) ⊎ ((status ≡ statuses.Unwritten) ⊎ (status ≡ statuses.Memory))
  pub due : (command : Command) → IsLine call.words command → IsCutShort status ⊎ IsDueOnFiles call.files command status call.out
  -- so, where the files tell what they hold, on that
  pub held : (command : Command) (source : List ℕ) (log : LogFile) → IsLine call.words command → HoldsSource call.files.held command source → HoldsLog call.files.held (log_of command) log
      → IsCutShort status ⊎ IsDue command source log status call.out
