-- How a command ends before err is told of it, step by step: with a program, with a source, with the files.
use Rattle.std.specs.Prelude.{◌≡◌, ◌⊎◌, ◌≤◌, ℕ, Bool, true, false, List, ◌∷◌, ◌++◌, length, Option, None, Some, IfSome, Result, Ok, Err}
use Rattle.std.specs.Global.{Vec}
use Rattle.std.specs.declared.alloc.AllocError.{AllocError}
use Rattle.df_base.specs.Outside.{bytes_of}
use Rattle.df_base.specs.declared.status.Status.{Status}
use Rattle.df_base.specs.declared.status.Status.TheVariants as statuses
use Rattle.df_lang.specs.Program.{Program}
use Rattle.df_ncmd.specs.Limits.{fuel_limit}
use Rattle.df_ncmd.specs.Line.{Budget, Command, Verify, Prove, Check, Build, Run, Bulk}
use Rattle.df_nmach.specs.State.{Code}
use Rattle.df_listing.specs.Listing.{listing_text}
use Rattle.df_listing.specs.Ordinary.{IsOrdinary}
use Rattle.df_nerase.specs.Erasing.{method_number}
use Rattle.df_nfront.specs.Source.{IsLawful}
use Rattle.df_tok.specs.Limits.{byte_limit}
use Rattle.df_report.specs.Report.{summary}
use Rattle.df_nproof.specs.Verified.{verified_outcomes}
use Rattle.df_ntop.specs.declared.ending.End.{End}
use Rattle.df_ntop.specs.declared.ending.End.TheVariants as ends
use Rattle.df_ntop.specs.Call.{Store, Stream, Streams, Takes, TakesPrefix, IsSilent, Rose, IsSourceOf, HasEnded, IsUnended}
use Rattle.df_ntop.specs.Command.{file_of, log_of, usual}
use Rattle.df_ntop.specs.Lines.{unread_line}
use Rattle.df_ntop.specs.Loaded.{IsLonger, log_limit, LogFile, NoLog, TooLong, Log, IsLogFile}
use Rattle.df_ntop.specs.Headline.{IsListed}
use Rattle.df_ntop.specs.Answer.{IsReport, IsLastLine, IsProofText, ProvesBy, IsFailing, IsFailingBriefly, IsBuilt, IsAccepted, ProgramTells, SourceTells, FilesTell}

-- ---- texts

-- the listing of the code
pub record IsListing (program : Program) (budget : Budget) (text : List ℕ) : Type 0 where
  pub code : Code
  pub built : IsBuilt program budget code
  pub text_is : text ≡ listing_text code

-- and of all codes that a machine holds it is the listing of this one alone
pub record IsWholeListing (program : Program) (budget : Budget) (text : List ℕ) : Type 0 where
  pub listing : IsListing program budget text
  pub ordinary : IsOrdinary listing.code
  pub only : (other : Code) → IsOrdinary other → listing_text other ≡ listing_text listing.code → other ≡ listing.code

-- the text of Main, whose code ends within so many steps
pub record IsRunText (program : Program) (budget : Budget) (fuel : ℕ) (text : List ℕ) : Type 0 where
  pub number : ℕ
  pub code : Code
  pub accepted : IsAccepted program budget number code text
  pub ended : HasEnded code (method_number program number) fuel text

-- the text of Main so far, whose code does not end within so many steps
pub record IsFuelText (program : Program) (budget : Budget) (fuel : ℕ) (text : List ℕ) : Type 0 where
  pub number : ℕ
  pub code : Code
  pub whole : List ℕ
  pub accepted : IsAccepted program budget number code whole
  pub unended : IsUnended code (method_number program number) fuel whole text

-- a text of this kind, behind the last line of a report that tells of no failure
pub record IsBehindLine (program : Program) (is : List ℕ → Type 0) (text : List ℕ) : Type 0 where
  pub rest : List ℕ
  pub is_rest : is rest
  pub text_is : text ≡ summary (verified_outcomes program.decls) ++ rest

-- the text of Main
abbrev pub IsMainText : Program → Budget → List ℕ → Type 0
IsMainText program budget text = (number : ℕ) × (code : Code) × IsAccepted program budget number code text

-- what a command puts on out where all is proved: the report, the logs, the listing, or the text of Main
abbrev pub IsDoneText : Command → LogFile → Program → List ℕ → Type 0
IsDoneText (Verify file budget) log program text = IsReport program budget true text
IsDoneText (Prove file budget) log program text = IsProofText program text
IsDoneText (Check file name) log program text = IsReport program usual true text × ProvesBy program log
IsDoneText (Build file proof budget) log program text = IsWholeListing program budget text × ProvesBy program log
IsDoneText (Run file proof budget fuel) log program text = IsRunText program budget fuel text × ProvesBy program log
IsDoneText (Bulk seed count) log program text = IsBehindLine program (IsRunText program usual fuel_limit) text

-- what a run puts on out whose fuel is spent
abbrev pub IsSpentText : Command → LogFile → Program → List ℕ → Type 0
IsSpentText (Run file proof budget fuel) log program text = IsFuelText program budget fuel text × ProvesBy program log
IsSpentText (Bulk seed count) log program text = IsBehindLine program (IsFuelText program usual fuel_limit) text
IsSpentText command log program text = ⊥

-- the report with a failure, which verify puts on out, and of which bulk puts the last line there
abbrev pub IsOutReport : Command → LogFile → Program → List ℕ → Type 0
IsOutReport (Verify file budget) log program text = IsReport program budget false text
IsOutReport (Bulk seed count) log program text = IsFailingBriefly (Bulk seed count) program text
IsOutReport command log program text = ⊥

-- and which the others put on err, where no log is named
abbrev pub IsErrReport : Command → LogFile → Program → List ℕ → Type 0
IsErrReport (Prove file budget) log program text = IsFailing (Prove file budget) program text
IsErrReport (Build file None budget) log program text = IsFailing (Build file None budget) program text
IsErrReport (Run file None budget fuel) log program text = IsFailing (Run file None budget fuel) program text
IsErrReport command log program text = ⊥

-- what a command puts on out if nothing cuts it off: a report, the logs, the listing, or the text of Main
abbrev pub IsOutText : Command → LogFile → Program → List ℕ → Type 0
IsOutText (Verify file budget) log program text = (verified : Bool) × IsReport program budget verified text
IsOutText (Prove file budget) log program text = IsProofText program text
IsOutText (Check file name) log program text = IsReport program usual true text × ProvesBy program log
IsOutText (Build file proof budget) log program text = IsListing program budget text × ProvesBy program log
IsOutText (Run file proof budget fuel) log program text = IsMainText program budget text × ProvesBy program log
IsOutText (Bulk seed count) log program text = ((verified : Bool) × IsLastLine program usual verified text) ⊎ IsBehindLine program (IsMainText program usual) text

-- ---- ends

-- what is known at a step: which texts are put, and which lines are told for which statuses
pub record Known : Type 1 where
  pub puts : (Command → LogFile → Program → List ℕ → Type 0) → (List ℕ → Type 0) → Type 0
  pub tells : Status → List ℕ → Type 0

-- the outcome of putting a text on one sink, by whether it tells of no failure
abbrev pub PutsText : Bool → List ℕ → Stream → End → Type 0
PutsText verified text s ends.Done = (verified ≡ true) × Takes s text
PutsText verified text s ends.Unproved = (verified ≡ false) × Takes s text
PutsText verified text s ends.FuelSpent = ⊥
PutsText verified text s (ends.Told status line) = ⊥
PutsText verified text s ends.Unwritten = Rose s.before s.after × TakesPrefix s text
PutsText verified text s ends.Memory = TakesPrefix s text

-- the outcome of putting the listing of a code on one sink
abbrev pub PutsListing : Code → Stream → End → Type 0
PutsListing code s ends.Done = IsListed code s
PutsListing code s ends.Unproved = ⊥
PutsListing code s ends.FuelSpent = ⊥
PutsListing code s (ends.Told status line) = ⊥
PutsListing code s ends.Unwritten = Rose s.before s.after × TakesPrefix s (listing_text code)
PutsListing code s ends.Memory = TakesPrefix s (listing_text code)

-- nothing is put
abbrev pub IsQuiet : Streams → Type 0
IsQuiet s = IsSilent s.out × IsSilent s.err

-- a text is put on one sink, or a part of it
abbrev pub PutsOnOut : Known → (Stream → List ℕ → Type 0) → (Command → LogFile → Program → List ℕ → Type 0) → Streams → Type 0
PutsOnOut known how is_of s = known.puts is_of (how s.out) × IsSilent s.err

abbrev pub PutsOnErr : Known → (Stream → List ℕ → Type 0) → Streams → Type 0
PutsOnErr known how s = known.puts IsErrReport (how s.err) × IsSilent s.out

-- how a command ends before err is told of it
abbrev pub Ends : Known → Streams → End → Type 0
Ends known s ends.Done = PutsOnOut known Takes IsDoneText s
Ends known s ends.Unproved = PutsOnOut known Takes IsOutReport s ⊎ PutsOnErr known Takes s
Ends known s ends.FuelSpent = PutsOnOut known Takes IsSpentText s
Ends known s (ends.Told status line) = known.tells status line.items × IsQuiet s
Ends known s ends.Unwritten = (Rose s.out.before s.out.after × PutsOnOut known TakesPrefix IsOutText s) ⊎ (Rose s.err.before s.err.after × PutsOnErr known TakesPrefix s)
Ends known s ends.Memory = IsQuiet s ⊎ (PutsOnOut known TakesPrefix IsOutText s ⊎ PutsOnErr known TakesPrefix s)

-- a line that is to be told for a status, if there was memory for it
abbrev pub IsToldBy : Status → Result (Vec ℕ) AllocError → End → Type 0
IsToldBy status (Ok line) end = end ≡ ends.Told status line
IsToldBy status (Err refused) end = end ≡ ends.Memory

-- with a program, and what is there of a log
abbrev pub of_program : Command → LogFile → Program → Known
of_program command log program = record { puts = λ is_of put. (text : List ℕ) × is_of command log program text × put text; tells = ProgramTells program command log }

-- with a source
abbrev pub of_source : Command → LogFile → List ℕ → Known
of_source command log source = record {
  puts = λ is_of put. (program : Program) × IsLawful source program × (of_program command log program).puts is_of put;
  tells = SourceTells source command log;
}

-- with the files
abbrev pub of_files : Command → Store → Known
of_files command files = record {
  puts = λ is_of put. (source : List ℕ) × (log : LogFile) × IsSourceOf files command source × IsLogFile files (log_of command) log × (of_source command log source).puts is_of put;
  tells = FilesTell files command;
}

-- ---- loads

-- what the load of a source gave: its bytes, or that there are too many, which is no fault
abbrev pub LoadsSource : Store → List ℕ → Option (List ℕ) → Type 0
LoadsSource files name None = (files.given ≡ files.had) × (files.after ≡ files.before) × IsLonger byte_limit files.held name
LoadsSource files name (Some source) = (files.given ≡ (name, source) ∷ files.had) × IfSome files.held (λ held. bytes_of held name ≡ Some source)

-- what the load of a log gave, if one is named
abbrev pub LoadsLog : Store → Option (List ℕ) → LogFile → Type 0
LoadsLog files None NoLog = (files.given ≡ files.had) × (files.after ≡ files.before)
LoadsLog files None TooLong = ⊥
LoadsLog files None (Log bytes) = ⊥
LoadsLog files (Some name) NoLog = ⊥
LoadsLog files (Some name) TooLong = (files.given ≡ files.had) × (files.after ≡ files.before) × IsLonger log_limit files.held name
LoadsLog files (Some name) (Log bytes) = (files.given ≡ (name, bytes) ∷ files.had) × IfSome files.held (λ held. bytes_of held name ≡ Some bytes) × (length bytes ≤ log_limit)

-- nothing is given, where this is the name of the source of a command
abbrev pub IsSourceFault : Store → Command → List ℕ → Type 0
IsSourceFault files command name = (name ≡ file_of command) × (files.given ≡ files.had)

-- where it is that of the log
abbrev pub IsLogFault : Store → Command → List ℕ → Type 0
IsLogFault files command name = (log_of command ≡ Some name) × (files.given ≡ files.had)

-- how a command ends where the load of such a file fails
abbrev pub FailsToLoad : (List ℕ → Type 0) → ℕ → ℕ → End → Type 0
FailsToLoad is_file before after ends.Done = ⊥
FailsToLoad is_file before after ends.Unproved = ⊥
FailsToLoad is_file before after ends.FuelSpent = ⊥
FailsToLoad is_file before after (ends.Told status line) = (name : List ℕ) × is_file name × (status ≡ statuses.Unread) × (line.items ≡ unread_line name) × Rose before after
FailsToLoad is_file before after ends.Unwritten = ⊥
FailsToLoad is_file before after ends.Memory = Unit {0}
