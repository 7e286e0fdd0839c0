use Rattle.std.proofs.Common.{map}
use Rattle.df_ntree.specs.File.{declaration_of}
use Rattle.df_nnames.specs.Meanings.{meanings_of}
use Rattle.df_nnames.proofs.Whole.{whole_table, whole_named, whole_refused}
use Rattle.df_nnames.proofs.table.Goals as goal

pub returns-clause-table : goal.returns-clause-table
returns-clause-table c =
    let meant = rw c.deref.ensures.value at c.in_ok-globals.ensures in
    whole_table (map declaration_of c.args.file.now.declarations.items) (meanings_of c.in_ok-globals.globals) meant c.declarations.result (rw c.deref-2.ensures.value at c.declarations.ensures.table)

pub returns-clause-named : goal.returns-clause-named
returns-clause-named c =
    let meant = rw c.deref.ensures.value at c.in_ok-globals.ensures in
    whole_named (map declaration_of c.args.file.now.declarations.items) (meanings_of c.in_ok-globals.globals) meant c.declarations.result (rw c.deref-2.ensures.value at c.declarations.ensures.faults)

pub returns-clause-refused : goal.returns-clause-refused
returns-clause-refused c =
    let meant = rw c.deref.ensures.value at c.in_ok-globals.ensures in
    whole_refused (map declaration_of c.args.file.now.declarations.items) (meanings_of c.in_ok-globals.globals) meant c.declarations.result c.requires (rw c.deref-2.ensures.value at c.declarations.ensures.faults)
