use Rattle.std.proofs.Common.{arith}
use Rattle.df_vm_store.specs.View.{cells_of}
use Rattle.df_vm_text.proofs.Printed.{begins_with}
use Rattle.df_vm_text.proofs.text.first.Goals as goal

pub returns-clause-begins : goal.returns-clause-begins
returns-clause-begins c = begins_with (cells_of c.args.store.now) c.args.from c.args.count c.cell.result c.args.store.now.founded c.cell.ensures.word (omega (arith, c.if-count-eq0.false)) c.cell.ensures.place
