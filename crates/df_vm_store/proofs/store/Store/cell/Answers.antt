use Rattle.std.proofs.Common.{arith, sym}
use Rattle.std.proofs.lemmas.Option.{slice_get_past}
use Rattle.df_vm_store.specs.View.{cells_of}
use Rattle.df_vm_store.proofs.Meanings.{cell_within}
use Rattle.df_vm_store.proofs.store.Store.cell.Goals as goal

pub returns-then-place-len-clause-within : goal.returns-then-place-len-clause-within
returns-then-place-len-clause-within c = cell_within (cells_of c.args.self.now) c.args.place c.index.result.now c.args.self.now.founded (omega arith) c.index.ensures

pub returns-else-place-len-clause-word : goal.returns-else-place-len-clause-word
returns-else-place-len-clause-word c = sym (slice_get_past (cells_of c.args.self.now) c.args.place (omega arith))
