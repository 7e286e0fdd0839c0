-- How the models of the fakes see what those keep.
use Rattle.std.specs.Prelude.{ℕ, List, string_bytes}
use Rattle.df_base.specs.declared.files.store.File.{File}
use Rattle.df_base.specs.declared.sink.mem.Planned.{Planned}

-- a file in memory, as its name and its bytes
abbrev pub stored : File → List ℕ × List ℕ
stored file = (string_bytes file.name, file.bytes)

-- a write that is to fail, as its number and how many bytes it takes first
abbrev pub planned : Planned → ℕ × ℕ
planned p = (p.call, p.takes)
