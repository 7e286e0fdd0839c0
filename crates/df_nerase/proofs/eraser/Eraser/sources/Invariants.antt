use Rattle.std.proofs.Common.{◌≡◌, take, map}
use Rattle.df_lang.specs.StmtView.{source_of}
use Rattle.df_nplain.specs.StmtView as plain
use Rattle.df_nerase.specs.Eraser.{program_in}
use Rattle.df_nerase.specs.Erasing.{erase_source}
use Rattle.df_nerase.proofs.eraser.Eraser.sources.Given as goal

abbrev pub invariant-loop-one : goal.invariant-loop-one
invariant-loop-one l = map plain.source_of l.erased.items ≡ map (erase_source (program_in l.self)) (map source_of (take l.one-index l.all.items))
