use Rattle.std.proofs.Common.{◌≡◌, drop, map}
use Rattle.df_lang.specs.StmtView.{measure_of}
use Rattle.df_nghost.specs.mirror.Uses.{reads_of_all}
use Rattle.df_nghost.specs.mirror.Known.{assigned_of}
use Rattle.df_nghost.specs.mirror.Uses.{pick}
use Rattle.df_nghost.proofs.reads.first_of_values.Given as goal

-- the first so far and of what is left is the first of all
abbrev pub invariant-loop-measure : goal.invariant-loop-measure
invariant-loop-measure l = pick (assigned_of l.assigned) l.first (reads_of_all (map measure_of (drop l.measure-index l.measure-items))) ≡ pick (assigned_of l.assigned) l.fn.first (reads_of_all (map measure_of l.measure-items))
