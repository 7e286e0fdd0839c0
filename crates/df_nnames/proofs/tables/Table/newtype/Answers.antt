use Rattle.std.proofs.Common.{sym, ◌∙◌}
use Rattle.df_nnames.proofs.Entries.{newtypes_found}
use Rattle.df_nnames.proofs.tables.Table.newtype.Goals as goal

pub returns : goal.returns
returns c = rw (← c.self.view_is) (c.copied.ensures ∙ c.get.ensures.value ∙ sym (newtypes_found c.self.inside.newtypes.entries c.args.name))
