use Rattle.std.proofs.Common.{◌≡◌, drop, map, fold}
use Rattle.df_lang.specs.ExprView.{expr_of}
use Rattle.df_nerase.specs.mirror.Finding.{found_of, find_in_argument}
use Rattle.df_nerase.proofs.native.call.Given as goal

abbrev pub invariant-loop-argument : goal.invariant-loop-argument
invariant-loop-argument l = fold find_in_argument (found_of l.found) (map expr_of (drop l.argument-index l.call.arguments.items)) ≡ fold find_in_argument (found_of l.fn.found) (map expr_of l.call.arguments.items)
