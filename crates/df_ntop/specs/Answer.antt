-- The table of answers: what out, err and the files have at each status of a call.
use Rattle.std.specs.Prelude.{◌≡◌, ◌⊎◌, ℕ, Bool, true, false, List, ◌∷◌, Option, None, Some}
use Rattle.df_base.specs.Outside.{Appends, AppendsPrefix}
use Rattle.df_base.specs.declared.pos.Pos.{Pos}
use Rattle.df_base.specs.declared.refusal.Refusal.{Refusal}
use Rattle.df_base.specs.declared.status.Status.{Status}
use Rattle.df_base.specs.declared.status.Status.TheVariants as statuses
use Rattle.df_form.specs.Log.{Step}
use Rattle.df_lang.specs.Groups.{AreGroups}
use Rattle.df_lang.specs.Native.{IsNative}
use Rattle.df_lang.specs.Program.{Program}
use Rattle.df_logtext.specs.BadLog.{IsText, IsBad}
use Rattle.df_meaning.specs.Correct.{AreCorrect}
use Rattle.df_ncmd.specs.Line.{Budget, Command, Verify, Prove, Check, Build, Run, Bulk}
use Rattle.df_report.specs.Report.{Outcome, report_text, summary}
use Rattle.df_search.specs.declared.found.Budget as search
use Rattle.df_nverdict.specs.Verdict.{IsJudged, are_verified}
use Rattle.df_nproof.specs.Names.{names_in}
use Rattle.df_nproof.specs.Derived.{AreProofs}
use Rattle.df_nproof.specs.Proofs.{IsLogOf}
use Rattle.df_nproof.specs.Checking.{HasBadPart}
use Rattle.df_nmach.specs.State.{Code}
use Rattle.df_nerase.specs.First.{IsFirst}
use Rattle.df_nback.specs.Run.{IsCompiled}
use Rattle.df_nfront.specs.Source.{IsLawful}
use Rattle.df_tok.specs.Limits.{byte_limit}
use Rattle.df_nfront.specs.Refused.{IsRefused}
use Rattle.df_nfront.specs.Line.{refusal_line}
use Rattle.df_ntop.specs.Call.{Store, Call, Takes, TakesPrefix, IsSilent, Rose, IsLine, IsSourceOf}
use Rattle.df_ntop.specs.Command.{IsNoLine, IsFileOf, file_of, log_of, log_name_of, usual, budget_of, compiles, runs}
use Rattle.df_ntop.specs.Entry.{IsEntryAt, HasNoEntry}
use Rattle.df_ntop.specs.Run.{IsRunOf}
use Rattle.df_ntop.specs.Loaded.{IsLonger, LogFile, NoLog, TooLong, Log, IsLogFile}
use Rattle.df_ntop.specs.Headline.{Share, Whole, Spent, Part, Accepted, CorrectSource}
use Rattle.df_ntop.specs.Lines.{usage_line, memory_line, fuel_line, unread_line, large_line, native_line, no_main_line, too_large_line, not_a_log_line, bad_part_line}

-- the command of the words, of which this holds
pub record OfLine (words : List (List ℕ)) (is : Command → Type 0) : Type 0 where
  pub command : Command
  pub line : IsLine words command
  pub holds : is command

-- ---- what is proved

-- how far a search may go
abbrev pub search_budget : Budget → search.Budget
search_budget b = record { steps = b.steps; rounds = b.rounds }

-- The outcomes of a program over its groups, by a search within the budget. Where none has a failure, each method is correct.
pub record IsVerdict (program : Program) (budget : Budget) (outcomes : List Outcome) : Type 0 where
  pub groups : List ℕ
  pub are_groups : AreGroups program groups
  pub judged : IsJudged program groups (search_budget budget) outcomes
  pub correct : are_verified outcomes ≡ true → AreCorrect program

-- all is proved
pub record IsProved (program : Program) (budget : Budget) : Type 0 where
  pub outcomes : List Outcome
  pub verdict : IsVerdict program budget outcomes
  pub verified : are_verified outcomes ≡ true

-- the report on a program, and whether it tells of no failure
pub record IsReport (program : Program) (budget : Budget) (verified : Bool) (text : List ℕ) : Type 0 where
  pub outcomes : List Outcome
  pub verdict : IsVerdict program budget outcomes
  pub verified_is : are_verified outcomes ≡ verified
  pub text_is : text ≡ report_text outcomes

-- its last line
pub record IsLastLine (program : Program) (budget : Budget) (verified : Bool) (text : List ℕ) : Type 0 where
  pub outcomes : List Outcome
  pub verdict : IsVerdict program budget outcomes
  pub verified_is : are_verified outcomes ≡ verified
  pub text_is : text ≡ summary outcomes

-- A text of logs of a program: one for each obligation, in order, which derives it. So each method is correct.
pub record IsProofText (program : Program) (text : List ℕ) : Type 0 where
  pub logs : List (List Step)
  pub proofs : AreProofs program logs
  pub correct : AreCorrect program
  pub is_text : IsText (names_in program) logs text

-- where there is a log, its parts derive the obligations of the program, one each
abbrev pub ProvesBy : Program → LogFile → Type 0
ProvesBy program NoLog = Unit {0}
ProvesBy program TooLong = ⊥
ProvesBy program (Log bytes) = IsLogOf program bytes

-- and so does the log of a command, where it names one
pub record IsByLog (files : Store) (command : Command) (program : Program) : Type 0 where
  pub log : LogFile
  pub is_file : IsLogFile files (log_of command) log
  pub proves : ProvesBy program log

-- a program that the command goes on to prove: where it compiles it, it compiles, and where it runs it, it has an entry
pub record IsReady (command : Command) (program : Program) : Type 0 where
  pub native : compiles command ≡ true → IsNative program
  pub entry : runs command ≡ true → (number : ℕ) × IsEntryAt program number

-- the report of a command that then puts nothing on out
pub record IsFailing (command : Command) (program : Program) (text : List ℕ) : Type 0 where
  pub report : IsReport program (budget_of command) false text
  pub ready : IsReady command program

-- the last line of the report of a command that puts no more of it
pub record IsFailingBriefly (command : Command) (program : Program) (text : List ℕ) : Type 0 where
  pub last : IsLastLine program (budget_of command) false text
  pub ready : IsReady command program

-- A program of which all is proved, and that compiles to the code.
pub record IsBuilt (program : Program) (budget : Budget) (code : Code) : Type 0 where
  pub proved : IsProved program budget
  pub native : IsNative program
  pub compiled : IsCompiled program code

-- And the entry is the method of this number: what its run prints is the whole text.
pub record IsAccepted (program : Program) (budget : Budget) (number : ℕ) (code : Code) (whole : List ℕ) : Type 0 where
  pub built : IsBuilt program budget code
  pub run : IsRunOf program number code whole

-- ---- what is put

-- What the headline promises, of a program of which all is proved by a search within the budget, or by the log.
pub record Proved (call : Call) (command : Command) (share : Share) : Type 0 where
  pub accepted : Accepted call command share
  pub built : IsBuilt accepted.program (budget_of command) accepted.code
  pub by_log : IsByLog call.files command accepted.program

-- A source whose methods are correct: out has taken the report, which tells of no failure.
pub record ProvedSource (call : Call) (command : Command) : Type 0 where
  pub right : CorrectSource call command
  pub text : List ℕ
  pub report : IsReport right.program (budget_of command) true text
  pub by_log : IsByLog call.files command right.program
  pub put : Takes call.out text

-- A source of which out has taken the text of one log for each obligation, in order, which derives it.
pub record ProvedLogs (call : Call) (command : Command) : Type 0 where
  pub right : CorrectSource call command
  pub text : List ℕ
  pub logs : IsProofText right.program text
  pub put : Takes call.out text

-- A text of this kind on the program of the source is put so.
pub record Puts (call : Call) (command : Command) (is_of : Program → List ℕ → Type 0) (put : List ℕ → Type 0) : Type 0 where
  pub source : List ℕ
  pub loaded : IsSourceOf call.files command source
  pub program : Program
  pub lawful : IsLawful source program
  pub text : List ℕ
  pub is : is_of program text
  pub was_put : put text

-- All is proved: out has the report, the logs, the listing, or the text of Main, whose code ends within the fuel.
abbrev pub IsDone : Call → Command → Type 0
IsDone call (Verify file budget) = ProvedSource call (Verify file budget)
IsDone call (Prove file budget) = ProvedLogs call (Prove file budget)
IsDone call (Check file log) = ProvedSource call (Check file log)
IsDone call (Build file proof budget) = Proved call (Build file proof budget) Whole
IsDone call (Run file proof budget fuel) = Proved call (Run file proof budget fuel) Whole
IsDone call (Bulk seed count) = Proved call (Bulk seed count) Whole

-- All is proved, and the code of Main does not end within the fuel: out has the text so far.
abbrev pub IsSpent : Call → Command → Type 0
IsSpent call (Run file proof budget fuel) = Proved call (Run file proof budget fuel) Spent
IsSpent call (Bulk seed count) = Proved call (Bulk seed count) Spent
IsSpent call command = ⊥

-- The report tells of a failure: verify puts it on out, bulk its last line, and the other commands put it on err. With a log
-- there is none.
abbrev pub IsUnproved : Call → Command → Type 0
IsUnproved call (Verify file budget) = Puts call (Verify file budget) (λ program text. IsReport program budget false text) (Takes call.out) × IsSilent call.err
IsUnproved call (Prove file budget) = Puts call (Prove file budget) (IsFailing (Prove file budget)) (Takes call.err) × IsSilent call.out
IsUnproved call (Check file log) = ⊥
IsUnproved call (Build file None budget) = Puts call (Build file None budget) (IsFailing (Build file None budget)) (Takes call.err) × IsSilent call.out
IsUnproved call (Build file (Some log) budget) = ⊥
IsUnproved call (Run file None budget fuel) = Puts call (Run file None budget fuel) (IsFailing (Run file None budget fuel)) (Takes call.err) × IsSilent call.out
IsUnproved call (Run file (Some log) budget fuel) = ⊥
IsUnproved call (Bulk seed count) = Puts call (Bulk seed count) (IsFailingBriefly (Bulk seed count)) (Takes call.out) × IsSilent call.err

-- Of bulk out has a part of the last line of the report, or a prefix of that line and the text of Main.
abbrev pub IsPartOfBulk : Call → ℕ → ℕ → Type 0
IsPartOfBulk call seed count =
    Puts call (Bulk seed count) (λ program text. (verified : Bool) × IsLastLine program usual verified text) (TakesPrefix call.out)
    ⊎ Proved call (Bulk seed count) Part

-- Out has a prefix of what the command puts there if nothing cuts it off: a report, logs, the listing, or the text of Main.
abbrev pub IsPartOnOut : Call → Command → Type 0
IsPartOnOut call (Verify file budget) = Puts call (Verify file budget) (λ program text. (verified : Bool) × IsReport program budget verified text) (TakesPrefix call.out)
IsPartOnOut call (Prove file budget) = Puts call (Prove file budget) IsProofText (TakesPrefix call.out)
IsPartOnOut call (Check file log) = Puts call (Check file log) (λ program text. IsReport program usual true text × IsByLog call.files (Check file log) program) (TakesPrefix call.out)
IsPartOnOut call (Build file proof budget) = Proved call (Build file proof budget) Part
IsPartOnOut call (Run file proof budget fuel) = Proved call (Run file proof budget fuel) Part
IsPartOnOut call (Bulk seed count) = IsPartOfBulk call seed count

-- Err, which has had this, has a prefix of the report that the command puts there.
abbrev pub IsPartOnErr : Call → Option (List ℕ) → Command → Type 0
IsPartOnErr call middle (Prove file budget) = Puts call (Prove file budget) (IsFailing (Prove file budget)) (AppendsPrefix call.err.old middle) × IsSilent call.out
IsPartOnErr call middle (Build file None budget) = Puts call (Build file None budget) (IsFailing (Build file None budget)) (AppendsPrefix call.err.old middle) × IsSilent call.out
IsPartOnErr call middle (Run file None budget fuel) = Puts call (Run file None budget fuel) (IsFailing (Run file None budget fuel)) (AppendsPrefix call.err.old middle) × IsSilent call.out
IsPartOnErr call middle command = ⊥

-- ---- lines on err

-- with its program, and what is there of a log, a command tells this line for the status
pub data ProgramTells (program : Program) (command : Command) (log : LogFile) : Status → List ℕ → Type 0 where
  not_native : (pos : Pos) (rule : ℕ) → compiles command ≡ true → IsFirst program pos rule → ProgramTells program command log statuses.NotCompilable (native_line (file_of command) pos rule)
  no_main : runs command ≡ true → IsNative program → HasNoEntry program → ProgramTells program command log statuses.NoMain (no_main_line (file_of command))
  -- the log is longer than the limit
  too_large : IsReady command program → log ≡ TooLong → ProgramTells program command log statuses.BadLog (too_large_line (log_name_of command))
  -- its bytes are the text of no logs
  not_a_log : (bytes : List ℕ) (number : ℕ) → IsReady command program → log ≡ Log bytes → IsBad (names_in program) bytes number → ProgramTells program command log statuses.BadLog (not_a_log_line (log_name_of command) number)
  -- they are that of parts, of which the first bad one is this obligation's
  bad_part : (bytes : List ℕ) (obligation step : ℕ) → IsReady command program → log ≡ Log bytes → HasBadPart program bytes obligation step → ProgramTells program command log statuses.BadLog (bad_part_line (log_name_of command) obligation step)

-- with its source
pub data SourceTells (source : List ℕ) (command : Command) (log : LogFile) : Status → List ℕ → Type 0 where
  refused : (names : List (List ℕ)) (r : Refusal) → IsRefused source names r → SourceTells source command log statuses.Refused (refusal_line (file_of command) names r)
  lawful : {status : Status} {line : List ℕ} (program : Program) → IsLawful source program → ProgramTells program command log status line → SourceTells source command log status line

-- the bytes of the source are given, or there are too many
abbrev pub IsBehindSource : Store → Command → Type 0
IsBehindSource files command =
    ((source : List ℕ) × (files.given ≡ (file_of command, source) ∷ files.had))
    ⊎ ((files.given ≡ files.had) × IsLonger byte_limit files.held (file_of command))

-- no bytes of the source are given: none at all, and no fault is counted, or those of the log alone
abbrev pub IsWithoutSource : Store → Command → Type 0
IsWithoutSource files command =
    ((files.given ≡ files.had) × (files.after ≡ files.before))
    ⊎ ((name : List ℕ) × (bytes : List ℕ) × (log_of command ≡ Some name) × (files.given ≡ (name, bytes) ∷ files.had))

-- Of the command this file is not read: its source, before anything is given, or its log, behind the source or where that is
-- too long.
pub data IsUnread (files : Store) (command : Command) : List ℕ → Type 0 where
  unread_source : IsFileOf command (file_of command) → files.given ≡ files.had → IsUnread files command (file_of command)
  unread_log : (name : List ℕ) → log_of command ≡ Some name → IsBehindSource files command → IsUnread files command name

-- with the files
pub data FilesTell (files : Store) (command : Command) : Status → List ℕ → Type 0 where
  unread : (name : List ℕ) → IsUnread files command name → Rose files.before files.after → FilesTell files command statuses.Unread (unread_line name)
  large : IsFileOf command (file_of command) → IsWithoutSource files command → IsLonger byte_limit files.held (file_of command) → FilesTell files command statuses.Refused (large_line (file_of command))
  loaded : {status : Status} {line : List ℕ} (source : List ℕ) (log : LogFile) → IsSourceOf files command source → IsLogFile files (log_of command) log → SourceTells source command log status line → FilesTell files command status line

-- with the words
abbrev pub Tells : Call → Status → List ℕ → Type 0
Tells call status line = OfLine call.words (λ command. FilesTell call.files command status line)

-- err has the line, and out nothing
abbrev pub IsTold : Call → List ℕ → Type 0
IsTold call line = IsSilent call.out × Takes call.err line

-- the line that is told for the status, with its cause
abbrev pub TellsFor : Call → Status → Type 0
TellsFor call status = (line : List ℕ) × Tells call status line × IsTold call line

-- ---- what is cut off

-- How much was put when memory was refused and err had taken this: nothing, or a prefix of what the command puts
-- on out, or of the report that it puts on err.
pub data PutSoFar (call : Call) (middle : Option (List ℕ)) : Type 0 where
  nothing : IsSilent call.out → middle ≡ call.err.old → PutSoFar call middle
  on_out : OfLine call.words (IsPartOnOut call) → middle ≡ call.err.old → PutSoFar call middle
  on_err : OfLine call.words (IsPartOnErr call middle) → PutSoFar call middle

-- and then err was told of it, if there was memory for that
pub record IsOutOfMemory (call : Call) : Type 0 where
  pub middle : Option (List ℕ)
  pub so_far : PutSoFar call middle
  pub told : Appends middle call.err.new memory_line ⊎ (call.err.new ≡ middle)

-- What a failed write of err cut off; nothing is put after it.
pub data IsCutOnErr (call : Call) : Type 0 where
  report : OfLine call.words (IsPartOnErr call call.err.new) → IsCutOnErr call
  usage : IsNoLine call.words → IsSilent call.out → TakesPrefix call.err usage_line → IsCutOnErr call
  cause : (status : Status) (line : List ℕ) → Tells call status line → IsSilent call.out → TakesPrefix call.err line → IsCutOnErr call
  spent : OfLine call.words (IsSpent call) → TakesPrefix call.err fuel_line → IsCutOnErr call
  memory : (middle : Option (List ℕ)) → PutSoFar call middle → AppendsPrefix middle call.err.new memory_line → IsCutOnErr call

-- ---- the table

abbrev pub Answers : Call → Status → Type 0
Answers call statuses.Done = OfLine call.words (IsDone call) × IsSilent call.err
Answers call statuses.Unproved = OfLine call.words (IsUnproved call)
Answers call statuses.Usage = IsNoLine call.words × IsTold call usage_line
Answers call statuses.Refused = TellsFor call statuses.Refused
Answers call statuses.Unread = Rose call.files.before call.files.after × OfLine call.words (λ command. (name : List ℕ) × IsUnread call.files command name × IsTold call (unread_line name))
Answers call statuses.Unwritten =
    (Rose call.out.before call.out.after × OfLine call.words (IsPartOnOut call) × IsSilent call.err)
    ⊎ (Rose call.err.before call.err.after × IsCutOnErr call)
Answers call statuses.Memory = IsOutOfMemory call
Answers call statuses.FuelSpent = OfLine call.words (IsSpent call) × Takes call.err fuel_line
Answers call statuses.NotCompilable = TellsFor call statuses.NotCompilable
Answers call statuses.NoMain = TellsFor call statuses.NoMain
Answers call statuses.BadLog = TellsFor call statuses.BadLog
