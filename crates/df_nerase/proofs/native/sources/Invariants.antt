use Rattle.std.proofs.Common.{◌≡◌, drop, map, fold}
use Rattle.df_lang.specs.StmtView.{source_of}
use Rattle.df_nerase.specs.mirror.Finding.{found_of, find_in_source}
use Rattle.df_nerase.proofs.native.sources.Given as goal

abbrev pub invariant-loop-one : goal.invariant-loop-one
invariant-loop-one l = fold find_in_source (found_of l.found) (map source_of (drop l.one-index l.all.items)) ≡ fold find_in_source (found_of l.fn.found) (map source_of l.all.items)
