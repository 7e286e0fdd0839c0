use Rattle.std.proofs.Common.{◌≡◌, drop, map}
use Rattle.std.specs.List.{flat_map}
use Rattle.df_ntree.specs.File.{operand_of}
use Rattle.df_nnames.specs.Faults.{operand_faults}
use Rattle.df_nnames.specs.Meanings.{meanings_of}
use Rattle.df_nnames.proofs.statements.operands.Given as goal

abbrev pub invariant-loop-each : goal.invariant-loop-each
invariant-loop-each l =
    flat_map (operand_faults (meanings_of l.globals) l.scope) (map operand_of (drop l.each-index l.all)) ≡ flat_map (operand_faults (meanings_of l.globals) l.scope) (map operand_of l.all)
