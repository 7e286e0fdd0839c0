-- What a call has of its log; and when a file, a source too, is longer than a limit.
use Rattle.std.specs.Prelude.{◌≡◌, ◌<◌, ◌≤◌, ℕ, Bool, true, false, List, ◌∷◌, length, Option, None, Some, IfSome}
use Rattle.df_base.specs.Outside.{Contents, bytes_of}
use Rattle.df_ntop.specs.Call.{Store}

-- a log has at most this many bytes
abbrev pub log_limit : ℕ
log_limit = 268435456

-- the file is longer than a limit, where the files tell it
abbrev pub IsLonger : ℕ → Option Contents → List ℕ → Type 0
IsLonger limit held name = IfSome held (λ files. (bytes : List ℕ) × (bytes_of files name ≡ Some bytes) × (limit < length bytes))

-- what is there of the log of a command
pub data LogFile : Type 0 where
  -- the command names none
  NoLog : LogFile
  -- it is longer than the limit
  TooLong : LogFile
  -- its bytes
  Log : List ℕ → LogFile

abbrev pub is_absent : LogFile → Bool
is_absent NoLog = true
is_absent TooLong = false
is_absent (Log bytes) = false

-- the files gave these bytes as those of the log, behind the source, and they are, where the files tell what they hold
pub record IsLogLoaded (files : Store) (name bytes : List ℕ) : Type 0 where
  pub first : List ℕ × List ℕ
  pub given : files.given ≡ (name, bytes) ∷ first ∷ files.had
  pub held : IfSome files.held (λ held. bytes_of held name ≡ Some bytes)
  pub short : length bytes ≤ log_limit

-- the files gave the source alone, and nothing of the log, which is longer than the limit, where they tell it
pub record IsLogTooLong (files : Store) (name : List ℕ) : Type 0 where
  pub first : List ℕ × List ℕ
  pub given : files.given ≡ first ∷ files.had
  pub longer : IsLonger log_limit files.held name

-- of a log of this name, if one is named
abbrev pub IsLogFile : Store → Option (List ℕ) → LogFile → Type 0
IsLogFile files None NoLog = Unit {0}
IsLogFile files None TooLong = ⊥
IsLogFile files None (Log bytes) = ⊥
IsLogFile files (Some name) NoLog = ⊥
IsLogFile files (Some name) TooLong = IsLogTooLong files name
IsLogFile files (Some name) (Log bytes) = IsLogLoaded files name bytes

-- there is one exactly where one is named
abbrev pub IsNamed : Option (List ℕ) → LogFile → Type 0
IsNamed None NoLog = Unit {0}
IsNamed None TooLong = ⊥
IsNamed None (Log bytes) = ⊥
IsNamed (Some name) NoLog = ⊥
IsNamed (Some name) TooLong = Unit {0}
IsNamed (Some name) (Log bytes) = Unit {0}
