use Rattle.std.proofs.Common.{◌≡◌, drop, map, flat_map}
use Rattle.df_lang.specs.ExprView.{expr_of}
use Rattle.df_lang.specs.Assignment.{reads}
use Rattle.df_nghost.specs.mirror.Known.{assigned_of}
use Rattle.df_nghost.specs.mirror.Uses.{pick}
use Rattle.df_nghost.proofs.reads.first_of_arguments.Given as goal

-- the first so far and of what is left is the first of all
abbrev pub invariant-loop-argument : goal.invariant-loop-argument
invariant-loop-argument l = pick (assigned_of l.assigned) l.first (flat_map reads (map expr_of (drop l.argument-index l.argument-items))) ≡ pick (assigned_of l.assigned) l.fn.first (flat_map reads (map expr_of l.argument-items))
