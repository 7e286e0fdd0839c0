use Rattle.std.proofs.Common.{◌≡◌, drop, map}
use Rattle.df_lang.specs.StmtView.{clause_of}
use Rattle.df_lang.specs.Assignment.{reads_of_clauses}
use Rattle.df_nghost.specs.mirror.Known.{assigned_of}
use Rattle.df_nghost.specs.mirror.Uses.{pick}
use Rattle.df_nghost.proofs.reads.first_of_clauses.Given as goal

-- the first so far and of what is left is the first of all
abbrev pub invariant-loop-clause : goal.invariant-loop-clause
invariant-loop-clause l = pick (assigned_of l.assigned) l.first (reads_of_clauses (map clause_of (drop l.clause-index l.clause-items))) ≡ pick (assigned_of l.assigned) l.fn.first (reads_of_clauses (map clause_of l.clause-items))
