use Rattle.std.proofs.Common.{rules, to_z-of_z}
use Rattle.df_vm_store.proofs.Parts.{divided}
use Rattle.df_vm_store.proofs.store.Store.divide.Goals as goal

pub returns-in-Some-clause-answers : goal.returns-in-Some-clause-answers
returns-in-Some-clause-answers c =
    let k = c.in-Number-Number in
    rw (k.is-0, k.is-1) (divided c.args.range k.left k.right _ (search (rules, to_z-of_z)) (search (rules, to_z-of_z)))
