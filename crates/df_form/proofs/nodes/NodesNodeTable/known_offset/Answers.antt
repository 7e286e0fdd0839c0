use Rattle.std.proofs.Common.{◌∙◌, sym, ap, slice_get}
use Rattle.df_form.specs.Offset.{offsets}
use Rattle.df_form.proofs.nodes.NodesNodeTable.known_offset.Goals as goal

pub returns : goal.returns
returns c = c.read.ensures ∙ ap (λ items. slice_get items c.args.number) (c.deref.ensures.value ∙ sym c.self.invariant.2 ∙ ap offsets c.self.view_is)
