use Rattle.std.proofs.Common.{subst}
use Rattle.df_form.specs.Sorting.{IsTable}
use Rattle.df_form.proofs.Tables.{table-take}
use Rattle.df_form.proofs.lent.Lent.len.Goals as goal

pub returns-clause-table : goal.returns-clause-table
returns-clause-table c = subst IsTable c.self.view_is (table-take c.self.inside.nodes.now c.self.inside.count c.len-len.ensures.table)
