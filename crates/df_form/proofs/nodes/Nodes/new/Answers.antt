use Rattle.std.proofs.Common.{length, sym, ap, subst, ◌∙◌, arith}
use Rattle.df_form.specs.Sorting.{IsTable}
use Rattle.df_form.specs.Offset.{offsets}
use Rattle.df_form.proofs.Tables.{table_none}
use Rattle.df_form.proofs.Offsets.{no_offsets}
use Rattle.df_form.proofs.nodes.Nodes.new.Goals as goal

pub invariant_of-result : goal.invariant_of-result
invariant_of-result c = (subst IsTable (sym c.new.ensures) table_none, omega (arith, ap length c.new.ensures), ap offsets c.new.ensures ∙ no_offsets ∙ sym c.new-2.ensures.items)
