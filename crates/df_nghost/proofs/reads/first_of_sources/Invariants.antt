use Rattle.std.proofs.Common.{◌≡◌, drop, map, flat_map}
use Rattle.df_lang.specs.StmtView.{source_of}
use Rattle.df_lang.specs.Assignment.{reads_of_source}
use Rattle.df_nghost.specs.mirror.Known.{assigned_of}
use Rattle.df_nghost.specs.mirror.Uses.{pick}
use Rattle.df_nghost.proofs.reads.first_of_sources.Given as goal

-- the first so far and of what is left is the first of all
abbrev pub invariant-loop-source : goal.invariant-loop-source
invariant-loop-source l = pick (assigned_of l.assigned) l.first (flat_map reads_of_source (map source_of (drop l.source-index l.source-items))) ≡ pick (assigned_of l.assigned) l.fn.first (flat_map reads_of_source (map source_of l.source-items))
