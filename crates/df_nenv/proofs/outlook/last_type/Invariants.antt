use Rattle.std.proofs.Common.{◌≡◌, drop}
use Rattle.df_ntyping.specs.ExprTypes.{last_type}
use Rattle.df_nenv.proofs.Casting.{last_behind}
use Rattle.df_nenv.proofs.outlook.last_type.Given as goal

abbrev pub invariant-loop-tree : goal.invariant-loop-tree
invariant-loop-tree l = last_behind l.env l.last (drop l.tree-index l.types) ≡ last_type l.env l.types
