use Rattle.std.proofs.Common.{◌≡◌, drop}
use Rattle.std.specs.List.{flat_map}
use Rattle.df_nnames.specs.Faults.{type_faults}
use Rattle.df_nnames.specs.Meanings.{meanings_of}
use Rattle.df_nnames.proofs.expressions.types.Given as goal

abbrev pub invariant-loop-each : goal.invariant-loop-each
invariant-loop-each l = flat_map (type_faults (meanings_of l.globals)) (drop l.each-index l.all) ≡ flat_map (type_faults (meanings_of l.globals)) l.all
