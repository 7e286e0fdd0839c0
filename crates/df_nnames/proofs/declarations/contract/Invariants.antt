use Rattle.std.proofs.Common.{◌≡◌, drop, map}
use Rattle.std.specs.List.{flat_map}
use Rattle.df_ntree.specs.File.{clause_of}
use Rattle.df_nnames.specs.Faults.{contract_faults}
use Rattle.df_nnames.specs.Meanings.{meanings_of}
use Rattle.df_nnames.proofs.declarations.contract.Given as goal

abbrev pub invariant-loop-each : goal.invariant-loop-each
invariant-loop-each l =
    flat_map (contract_faults (meanings_of l.globals) l.parameters l.both) (map clause_of (drop l.each-index l.all)) ≡ flat_map (contract_faults (meanings_of l.globals) l.parameters l.both) (map clause_of l.all)
