-- One call of the program: its words and the command that they ask for, what the files and the sinks had before it and
-- have after it, the source, and how far the machine comes. A count of faults is how many reads or writes failed.
use Rattle.std.specs.Prelude.{◌≡◌, ◌<◌, ◌-◌, ◌^◌, ◌⊎◌, ℕ, List, [], ◌∷◌, ◌++◌, Option, Some, IfSome}
use Rattle.df_base.specs.Outside.{Contents, Appends, AppendsPrefix, bytes_of}
use Rattle.df_base.specs.declared.files.Files as file_members
use Rattle.df_base.specs.declared.sink.Sink as sink_members
use Rattle.df_ncmd.specs.Line.{Command, Verify, Prove, Check, Build, Run, Bulk, line_of}
use Rattle.df_gen.specs.GeneratedSource.{generated_source}
use Rattle.df_nmach.specs.State.{Code, State}
use Rattle.df_nmach.specs.Step as step
use Rattle.df_nmach.specs.Run.{and_then, machine_run, start_of}

-- the files: what they hold, where they tell, the names and the bytes of the files that they had given and have given,
-- the last one first, and their count of faults before and after
pub record Store : Type 0 where
  pub held : Option Contents
  pub had : List (List ℕ × List ℕ)
  pub given : List (List ℕ × List ℕ)
  pub before : ℕ
  pub after : ℕ

-- a sink: what it had taken and has taken, where it tells, and its count of faults before and after
pub record Stream : Type 0 where
  pub old : Option (List ℕ)
  pub new : Option (List ℕ)
  pub before : ℕ
  pub after : ℕ

pub record Streams : Type 0 where
  pub out : Stream
  pub err : Stream

-- the words, the files, standard output and standard error
pub record Call : Type 0 where
  pub words : List (List ℕ)
  pub files : Store
  pub out : Stream
  pub err : Stream

-- ---- the records, of the members of traits at what there was and what there is

abbrev pub store : {F : Type 0} → file_members.Ghosts F → F → F → Store
store members old new = record {
  held = members.holds old;
  had = members.given old;
  given = members.given new;
  before = members.fault_count old;
  after = members.fault_count new;
}

abbrev pub stream : {S : Type 0} → sink_members.Ghosts S → S → S → Stream
stream members old new = record { old = members.taken old; new = members.taken new; before = members.fault_count old; after = members.fault_count new }

abbrev pub streams : {O E : Type 0} → sink_members.Ghosts O → O → O → sink_members.Ghosts E → E → E → Streams
streams out old_out new_out err old_err new_err = record { out = stream out old_out new_out; err = stream err old_err new_err }

abbrev pub call_of : {F O E : Type 0} → List (List ℕ) → file_members.Ghosts F → F → F → sink_members.Ghosts O → O → O → sink_members.Ghosts E → E → E → Call
call_of words members old new out old_out new_out err old_err new_err = record {
  words = words;
  files = store members old new;
  out = stream out old_out new_out;
  err = stream err old_err new_err;
}

-- ---- what is said of them

-- the sink has taken these bytes
abbrev pub Takes : Stream → List ℕ → Type 0
Takes s bytes = Appends s.old s.new bytes

-- a prefix of these bytes
abbrev pub TakesPrefix : Stream → List ℕ → Type 0
TakesPrefix s bytes = AppendsPrefix s.old s.new bytes

-- nothing
abbrev pub IsSilent : Stream → Type 0
IsSilent s = s.new ≡ s.old

-- a count of faults rose, or stands at its last value
abbrev pub Rose : ℕ → ℕ → Type 0
Rose before after = (before < after) ⊎ (after ≡ 2 ^ 64 - 1)

-- ---- the command

-- the words ask for the command
pub record IsLine (words : List (List ℕ)) (command : Command) : Type 0 where
  pub asks : line_of words ≡ Some command

-- ---- the source

-- the files gave these bytes as those of the file, before any others of the call, and they are, where the files tell what
-- they hold
pub record IsLoaded (files : Store) (name source : List ℕ) : Type 0 where
  pub others : List (List ℕ × List ℕ)
  pub given : files.given ≡ others ++ (name, source) ∷ files.had
  pub held : IfSome files.held (λ held. bytes_of held name ≡ Some source)

-- the source of a command is that of its file, and of bulk the generated one
abbrev pub IsSourceOf : Store → Command → List ℕ → Type 0
IsSourceOf files (Verify file budget) source = IsLoaded files file source
IsSourceOf files (Prove file budget) source = IsLoaded files file source
IsSourceOf files (Check file log) source = IsLoaded files file source
IsSourceOf files (Build file proof budget) source = IsLoaded files file source
IsSourceOf files (Run file proof budget fuel) source = IsLoaded files file source
IsSourceOf files (Bulk seed count) source = source ≡ generated_source seed count

-- ---- how far the machine comes in so many steps of a method without arguments

-- within so many steps the machine ends with this text
pub record HasEnded (code : Code) (number fuel : ℕ) (text : List ℕ) : Type 0 where
  pub within : and_then (start_of code number [] []) (machine_run code fuel) ≡ step.Ended (record { results = []; heap = []; text = text })

-- after so many steps the machine has not ended, and has printed so much of the whole
pub record IsUnended (code : Code) (number fuel : ℕ) (whole text : List ℕ) : Type 0 where
  pub state : State
  pub on : and_then (start_of code number [] []) (machine_run code fuel) ≡ step.On state
  pub so_far : state.text ≡ text
  pub more : List ℕ
  pub is_part : whole ≡ text ++ more
