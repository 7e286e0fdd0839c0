-- What the files and the sinks in memory hold.
use Rattle.std.specs.Prelude.{ℕ, ◌+◌, ◌-◌, ◌^◌, min, List, [], ◌∷◌, Bool, Option, Some, None, cond, nat_eq, unwrap_or}
use Rattle.std.specs.List.{list_any}
use Rattle.df_base.specs.Outside.{Contents, bytes_of}

-- files in memory: what they are, the numbers of the calls that are to fail, how many calls and faults there were, and
-- the names and the bytes of the files that were given, the last one first
pub record FilesInMemory : Type 0 where
  pub files : Contents
  pub failing : List ℕ
  pub calls : ℕ
  pub faults : ℕ
  pub given : List (List ℕ × List ℕ)

-- the same where no load fails
pub record SureInMemory : Type 0 where
  pub files : Contents
  pub given : List (List ℕ × List ℕ)

-- a sink in memory: what it took, the calls that are to fail with how many bytes each takes first, and how many calls and faults there were
pub record SinkInMemory : Type 0 where
  pub taken : List ℕ
  pub failing : List (ℕ × ℕ)
  pub calls : ℕ
  pub faults : ℕ

-- whether the call of this number is to fail
abbrev pub is_failing : List ℕ → ℕ → Bool
is_failing failing call = list_any (λ number. nat_eq number call) failing

-- how many bytes the call of this number takes before it fails, where it is to fail
abbrev pub takes_first : List (ℕ × ℕ) → ℕ → Option ℕ
takes_first [] call = None
takes_first (planned ∷ others) call = cond (nat_eq planned.0 call) (Some planned.1) (takes_first others call)

-- one more, up to the last value of a u64
abbrev pub next_count : ℕ → ℕ
next_count count = min (count + 1) (2 ^ 64 - 1)

-- the bytes of a file, and none of a name that has no file
abbrev pub bytes_or_none : Contents → List ℕ → List ℕ
bytes_or_none files name = unwrap_or (bytes_of files name) []
