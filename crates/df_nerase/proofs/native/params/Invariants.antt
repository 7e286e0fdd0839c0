use Rattle.std.proofs.Common.{◌≡◌, drop, map, fold}
use Rattle.df_lang.specs.DeclView.{param_of}
use Rattle.df_nerase.specs.mirror.Finding.{found_of, find_in_param}
use Rattle.df_nerase.proofs.native.params.Given as goal

abbrev pub invariant-loop-param : goal.invariant-loop-param
invariant-loop-param l = fold find_in_param (found_of l.found) (map param_of (drop l.param-index l.all.items)) ≡ fold find_in_param (found_of l.fn.found) (map param_of l.all.items)
