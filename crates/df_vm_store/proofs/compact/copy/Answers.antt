use Rattle.df_vm_store.specs.Compact.{kept}
use Rattle.df_vm_store.specs.View.{cells_of, values_in}
use Rattle.df_vm_store.proofs.Kept.{copied_none}
use Rattle.df_vm_store.proofs.compact.copy.Goals as goal

pub loop-cell-init : goal.loop-cell-init
loop-cell-init c = copied_none (cells_of c.new-copy.result) (kept c.args.live.now (values_in c.args.store.now)) c.new-copy.ensures
