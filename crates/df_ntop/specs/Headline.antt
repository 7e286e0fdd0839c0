-- The headline: what holds where `build`, `run` or `bulk` accepts a source, and where the others tell of no failure.
use Rattle.std.specs.Prelude.{◌≡◌, ◌≢◌, ◌⊎◌, ℕ, Bool, true, false, List, [], ◌++◌, Some}
use Rattle.df_base.specs.declared.status.Status.{Status}
use Rattle.df_base.specs.declared.status.Status.TheVariants as statuses
use Rattle.df_lang.specs.Program.{Method, Program, method_at, types_of}
use Rattle.df_meaning.specs.Value.{Value}
use Rattle.df_meaning.specs.Types.{have_types}
use Rattle.df_meaning.specs.Correct.{MeetsPreconditions, AreCorrect, IsEntry}
use Rattle.df_ncmd.specs.Limits.{fuel_limit}
use Rattle.df_ncmd.specs.Line.{Command, Verify, Prove, Check, Build, Run, Bulk}
use Rattle.df_nmach.specs.State.{Code}
use Rattle.df_listing.specs.Listing.{listing_text}
use Rattle.df_listing.specs.Ordinary.{IsOrdinary}
use Rattle.df_nerase.specs.Erasing.{method_number}
use Rattle.df_nback.specs.Run.{nothing_yet, RunsAs, RunsAsEntry, code_for}
use Rattle.df_nfront.specs.Source.{IsLawful}
use Rattle.df_report.specs.Report.{Outcome, summary}
use Rattle.df_nproof.specs.Verified.{verified_outcomes}
use Rattle.df_ntop.specs.Call.{Stream, Call, Takes, TakesPrefix, IsLine, IsSourceOf, HasEnded, IsUnended}

-- out has taken more than a part of the last line of a report
abbrev pub HasPassedLine : Stream → Type 0
HasPassedLine out = (outcomes : List Outcome) → TakesPrefix out (summary outcomes) → ⊥

-- `build` accepts where it ends with status 0, and `run` where it ends, or spends its fuel, or has put a byte on out; and so
-- does `bulk`, where the last line of the report does not count.
abbrev pub Accepts : Command → Call → Status → Type 0
Accepts (Build file proof budget) call status = status ≡ statuses.Done
Accepts (Run file proof budget fuel) call status = (status ≡ statuses.Done) ⊎ ((status ≡ statuses.FuelSpent) ⊎ (call.out.new ≢ call.out.old))
Accepts (Bulk seed count) call status = (status ≡ statuses.Done) ⊎ ((status ≡ statuses.FuelSpent) ⊎ HasPassedLine call.out)
Accepts command call status = ⊥

-- How much of what it puts out has taken.
pub data Share : Type 0 where
  -- all of it; of a run: the code ends within the fuel
  Whole : Share
  -- what is printed after as many steps as the fuel, when the code has not ended
  Spent : Share
  -- a prefix
  Part : Share

abbrev pub share_at : Status → Share
share_at statuses.Done = Whole
share_at statuses.FuelSpent = Spent
share_at status = Part

-- ---- what is put

-- so much of the text of a run out has taken, behind a line
abbrev pub HasPut : Share → List ℕ → Code → ℕ → ℕ → List ℕ → Stream → Type 0
HasPut Whole line code number fuel text out = HasEnded code number fuel text × Takes out (line ++ text)
HasPut Spent line code number fuel text out = (so_far : List ℕ) × IsUnended code number fuel text so_far × Takes out (line ++ so_far)
HasPut Part line code number fuel text out = TakesPrefix out (line ++ text)

-- The listing of the code is what out has taken, and of all codes that a machine holds it is the listing of this one alone.
pub record IsListed (code : Code) (out : Stream) : Type 0 where
  pub put : Takes out (listing_text code)
  pub ordinary : IsOrdinary code
  pub only : (other : Code) → IsOrdinary other → listing_text other ≡ listing_text code → other ≡ code

-- so much of a listing
abbrev pub HasListed : Share → Code → Stream → Type 0
HasListed Whole code out = IsListed code out
HasListed Spent code out = ⊥
HasListed Part code out = TakesPrefix out (listing_text code)

-- The run of the entry: without arguments it ends with its ghosts, and on the machine with the same text, of which out has
-- taken so much, behind a line.
pub record EntryRun (program : Program) (code : Code) (fuel : ℕ) (share : Share) (line : List ℕ) (out : Stream) : Type 0 where
  pub number : ℕ
  pub main : Method
  pub entry : IsEntry program number main
  pub runs : RunsAsEntry program code number main
  pub put : HasPut share line code (method_number program number) fuel runs.returned.store.text out

-- what out has taken: of `build` the listing of the code, of `run` the text of the code that ran, and of `bulk` this text
-- behind the last line of the report, which tells of no failure
abbrev pub IsPut : Command → Share → Program → Code → Stream → Type 0
IsPut (Build file proof budget) share program code out = HasListed share code out
IsPut (Run file proof budget fuel) share program code out = EntryRun program code fuel share [] out
IsPut (Bulk seed count) share program code out = EntryRun program code fuel_limit share (summary (verified_outcomes program.decls)) out
IsPut command share program code out = ⊥

-- ---- the headline

-- Of every method, on any heap, and on all arguments of the types of its parameters that meet its preconditions: the code
-- never faults, ends within some number of steps, and leaves the text and the results of a run of the method with its ghosts
-- that ends, and so satisfies every assertion and contract.
abbrev pub AllRun : Program → Code → Type 0
AllRun program code = (number : ℕ) (method : Method) → method_at program number ≡ Some method
    → (arguments : List Value) → have_types program (types_of method.parameters) arguments ≡ true → MeetsPreconditions program method arguments nothing_yet
    → RunsAs program code number method arguments

-- The source that a command accepts, its program and its code, and how much out has taken.
pub record Accepted (call : Call) (command : Command) (share : Share) : Type 0 where
  -- its bytes were loaded from the file, or made, and they spell a lawful program
  pub source : List ℕ
  pub loaded : IsSourceOf call.files command source
  pub program : Program
  pub lawful : IsLawful source program
  -- every method is correct: no run of it is wrong, and it ends
  pub correct : AreCorrect program
  -- and runs so on the emitted erased code
  pub code : Code
  pub emitted : code ≡ code_for program
  pub runs : AllRun program code
  -- which is the one that is listed, or that ran
  pub put : IsPut command share program code call.out

-- The headline: where `build`, `run` or `bulk` accepts, all of that holds.
abbrev pub AcceptsRight : Call → Status → Type 0
AcceptsRight call status = (command : Command) → IsLine call.words command → Accepts command call status → Accepted call command (share_at status)

-- ---- what the other commands promise

-- The source of a program of which a command tells no failure: every method is correct.
pub record CorrectSource (call : Call) (command : Command) : Type 0 where
  pub source : List ℕ
  pub loaded : IsSourceOf call.files command source
  pub program : Program
  pub lawful : IsLawful source program
  pub correct : AreCorrect program

-- the command neither compiles nor runs
abbrev pub judges : Command → Bool
judges (Verify file budget) = true
judges (Prove file budget) = true
judges (Check file log) = true
judges (Build file proof budget) = false
judges (Run file proof budget fuel) = false
judges (Bulk seed count) = false

-- Where verify, prove or check tells of no failure, every method of the source is correct.
abbrev pub JudgesRight : Call → Status → Type 0
JudgesRight call status = (command : Command) → IsLine call.words command → judges command ≡ true → status ≡ statuses.Done → CorrectSource call command
