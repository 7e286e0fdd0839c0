use Rattle.std.proofs.Common.{ap, ◌∙◌}
use Rattle.std.specs.Prelude.{option_map}
use Rattle.df_nnames.specs.Table.{named}
use Rattle.df_nnames.proofs.Entries.{methods_found}
use Rattle.df_nnames.proofs.tables.Table.method.Goals as goal

pub returns : goal.returns
returns c = rw (← c.self.view_is) (ap (option_map (named c.args.name)) c.get.ensures.value ∙ methods_found c.self.inside.methods.entries c.args.name)
