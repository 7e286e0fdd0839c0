use Rattle.std.proofs.Common.{◌≡◌, drop, map}
use Rattle.df_ntree.specs.File.{declaration_of}
use Rattle.df_nnames.specs.Table.{no_table}
use Rattle.df_nnames.specs.Listing.{with_declarations}
use Rattle.df_nnames.specs.Faults.{declarations_faults}
use Rattle.df_nnames.specs.Meanings.{meanings_of}
use Rattle.df_nnames.proofs.declarations.declarations.Given as goal

abbrev pub invariant-loop-id : goal.invariant-loop-id
invariant-loop-id l =
    (declarations_faults (meanings_of l.globals) l.table l.id (map declaration_of (drop l.id l.all)) ≡ declarations_faults (meanings_of l.globals) no_table 0 (map declaration_of l.all))
    × (with_declarations (meanings_of l.globals) l.table l.id (map declaration_of (drop l.id l.all)) ≡ with_declarations (meanings_of l.globals) no_table 0 (map declaration_of l.all))
