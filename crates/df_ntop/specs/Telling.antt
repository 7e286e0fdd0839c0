-- What err has taken after a line is told, and which status comes.
use Rattle.std.specs.Prelude.{◌≡◌, ◌⊎◌, ℕ, List}
use Rattle.df_base.specs.declared.status.Status.{Status}
use Rattle.df_base.specs.declared.status.Status.TheVariants as statuses
use Rattle.df_ntop.specs.Call.{Stream, Takes, TakesPrefix, IsSilent, Rose}
use Rattle.df_ntop.specs.Lines.{memory_line}

-- the whole line is told, with the status that it is for
abbrev pub IsToldFor : Status → List ℕ → Stream → Status → Type 0
IsToldFor status line err result = (result ≡ status) × Takes err line

-- the write failed after a prefix of the line, or of the line on memory
abbrev pub IsCut : List ℕ → Stream → Status → Type 0
IsCut line err result = (result ≡ statuses.Unwritten) × Rose err.before err.after × (TakesPrefix err line ⊎ TakesPrefix err memory_line)

-- memory was refused: the line on memory is told, or nothing
abbrev pub IsRefusedMemory : Stream → Status → Type 0
IsRefusedMemory err result = (result ≡ statuses.Memory) × (Takes err memory_line ⊎ IsSilent err)

abbrev pub Tells : Status → List ℕ → Stream → Status → Type 0
Tells status line err result = IsToldFor status line err result ⊎ (IsCut line err result ⊎ IsRefusedMemory err result)
