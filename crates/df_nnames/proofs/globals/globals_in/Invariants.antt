use Rattle.std.proofs.Common.{◌≡◌, drop, map}
use Rattle.df_ntree.specs.File.{declaration_of}
use Rattle.df_nnames.specs.Globals.{globals_from}
use Rattle.df_nnames.specs.Meanings.{meanings_of}
use Rattle.df_nnames.proofs.Meanings.{joined}
use Rattle.df_nnames.proofs.globals.globals_in.Given as goal

abbrev pub invariant-loop-id : goal.invariant-loop-id
invariant-loop-id l = joined (meanings_of l.globals) (globals_from l.id (map declaration_of (drop l.id l.all))) ≡ globals_from 0 (map declaration_of l.all)
