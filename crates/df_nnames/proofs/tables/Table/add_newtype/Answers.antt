use Rattle.std.proofs.Common.{map}
use Rattle.df_nnames.specs.Table.{named_method}
use Rattle.df_nnames.proofs.Entries.{newtypes_grown}
use Rattle.df_nnames.proofs.tables.Table.add_newtype.Goals as goal

pub returns : goal.returns
returns c =
    let new = rw (← c.self.view_is) at c.requires in
    let grown = newtypes_grown c.self.inside.newtypes c.insert.new.self c.args.name c.args.id new c.in_ok-insert.ensures.entries in
    rw (← c.self.view_is) (λ i. record { newtypes = grown i; methods = map named_method c.self.inside.methods.entries })
