use Rattle.std.proofs.Common.{◌∙◌, sym, ap, subst, slice_get}
use Rattle.df_form.specs.Sorting.{IsTable}
use Rattle.df_form.proofs.Tables.{table-take}
use Rattle.df_form.proofs.Fronts.{get_taken, sorted-read}
use Rattle.df_form.proofs.lent.Lent.get.Goals as goal

pub returns-then-number-self-clause-node : goal.returns-then-number-self-clause-node
returns-then-number-self-clause-node c = c.get.ensures.node ∙ sym (get_taken c.self.inside.count c.self.inside.nodes.now c.args.number c.if-number-self.true) ∙ ap (λ nodes. slice_get nodes c.args.number) c.self.view_is

pub returns-then-number-self-clause-sorted : goal.returns-then-number-self-clause-sorted
returns-then-number-self-clause-sorted c = sorted-read c.args.self.now c.args.number c.get.result (subst IsTable c.self.view_is (table-take c.self.inside.nodes.now c.self.inside.count c.len-len.ensures.table)) (returns-then-number-self-clause-node c)
