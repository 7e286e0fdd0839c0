use Rattle.std.proofs.Common.{◌≡◌, ◌++◌, drop, map, Some}
use Rattle.df_nnames.specs.Faults.{parameter_faults, with_parameters}
use Rattle.df_nnames.specs.Listing.{types_meant}
use Rattle.df_nnames.specs.Meanings.{meanings_of}
use Rattle.df_nnames.proofs.declarations.parameters.Given as goal

abbrev pub invariant-loop-each : goal.invariant-loop-each
invariant-loop-each l =
    (parameter_faults (meanings_of l.globals) l.scope (drop l.each-index l.all) ≡ parameter_faults (meanings_of l.globals) l.fn.scope l.all)
    × (with_parameters l.scope (drop l.each-index l.all) ≡ with_parameters l.fn.scope l.all)
    × (map Some l.types.items ++ types_meant (meanings_of l.globals) (drop l.each-index l.all) ≡ types_meant (meanings_of l.globals) l.all)
