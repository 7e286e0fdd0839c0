use Rattle.std.proofs.Common.{map}
use Rattle.df_nnames.specs.Table.{named_type}
use Rattle.df_nnames.proofs.Entries.{methods_grown}
use Rattle.df_nnames.proofs.tables.Table.add_method.Goals as goal

pub returns : goal.returns
returns c =
    let new = rw (← c.self.view_is) at c.requires in
    let grown = methods_grown c.self.inside.methods c.insert.new.self c.args.name c.args.method new c.in_ok-insert.ensures.entries in
    rw (← c.self.view_is) (λ i. record { newtypes = map named_type c.self.inside.newtypes.entries; methods = grown i })
