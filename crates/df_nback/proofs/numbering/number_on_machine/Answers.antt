use Rattle.std.proofs.Common.{◌∙◌, sym}
use Rattle.df_nback.proofs.Numbers.{method_number_is}
use Rattle.df_nback.proofs.numbering.number_on_machine.Goals as goal

pub returns : goal.returns
returns c =
    c.count.ensures ∙ method_number_is c.args.program.now.decls.items c.deref.result.now c.args.number c.min-before.result c.len.result c.deref.ensures.value (c.len.ensures ∙ sym c.deref.ensures.len) c.min-before.ensures
