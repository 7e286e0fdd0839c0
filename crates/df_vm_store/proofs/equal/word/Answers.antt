use Rattle.df_vm_store.proofs.Falling.{founded_got}
use Rattle.df_vm_store.proofs.equal.word.Goals as goal

pub returns-clause-within : goal.returns-clause-within
returns-clause-within c = founded_got c.args.cells.now c.args.place _ c.requires.founded c.requires.place
