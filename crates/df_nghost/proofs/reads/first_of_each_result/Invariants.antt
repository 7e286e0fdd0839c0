use Rattle.std.proofs.Common.{◌≡◌, ◌+◌, drop, map, length}
use Rattle.df_lang.specs.DeclView.{param_of}
use Rattle.df_lang.specs.Assignment.{results_from}
use Rattle.df_nghost.specs.mirror.Known.{assigned_of}
use Rattle.df_nghost.specs.mirror.Uses.{pick}
use Rattle.df_nghost.proofs.reads.first_of_each_result.Given as goal

-- the first so far and of what is left is the first of all
abbrev pub invariant-loop-index : goal.invariant-loop-index
invariant-loop-index l =
    pick (assigned_of l.assigned) l.first (results_from l.pos (length l.parameters + l.index) (map param_of (drop l.index l.results)))
    ≡ pick (assigned_of l.assigned) l.fn.first (results_from l.pos (length l.parameters) (map param_of l.results))
