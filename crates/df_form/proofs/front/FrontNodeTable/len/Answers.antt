use Rattle.std.proofs.Common.{length, ap, subst, ◌∙◌}
use Rattle.df_form.specs.Sorting.{IsTable}
use Rattle.df_form.proofs.front.FrontNodeTable.len.Goals as goal

pub returns-clause-len : goal.returns-clause-len
returns-clause-len c = c.len.ensures.len ∙ ap length c.lent.ensures

pub returns-clause-table : goal.returns-clause-table
returns-clause-table c = subst IsTable c.lent.ensures c.len.ensures.table
