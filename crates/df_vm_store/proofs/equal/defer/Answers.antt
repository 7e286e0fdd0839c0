use Rattle.std.proofs.Common.{vec_capacity, arith}
use Rattle.df_vm_store.proofs.Falling.{has_room}
use Rattle.df_vm_store.proofs.equal.defer.Goals as goal

pub push_reserved-requires : goal.push_reserved-requires
push_reserved-requires c =
    let pending = c.args.pending.now in
    omega (arith, pending.ok.0, pending.ok.1, has_room c.args.size (vec_capacity pending) pending.items c.args.pair c.requires.falls (λ e. omega (arith, e, c.if-pair-ne0.true)) c.requires.room)
