use Rattle.std.proofs.Common.{◌≡◌, take, map}
use Rattle.df_lang.specs.DeclView.{param_of}
use Rattle.df_nplain.specs.Kind as plain
use Rattle.df_nerase.specs.Eraser.{program_in}
use Rattle.df_nerase.specs.Erasing.{kinds_of}
use Rattle.df_nerase.proofs.eraser.Eraser.kinds.Given as goal

abbrev pub invariant-loop-param : goal.invariant-loop-param
invariant-loop-param l = map plain.kind_of l.erased.items ≡ kinds_of (program_in l.self) (map param_of (take l.param-index l.params.items))
