use Rattle.std.proofs.Common.{◌≡◌, drop, map}
use Rattle.df_base.specs.Outside.{bytes_of}
use Rattle.df_base.specs.Stored.{stored}
use Rattle.df_base.proofs.files.store.Store.find.Given as goal

abbrev pub invariant-loop-file : goal.invariant-loop-file
invariant-loop-file l = bytes_of (map stored (drop l.file-index l.file-items)) l.name ≡ bytes_of l.self l.name
