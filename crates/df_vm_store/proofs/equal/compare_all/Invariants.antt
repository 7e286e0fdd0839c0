use Rattle.std.proofs.Common.{◌≡◌, true, length, vec_capacity}
use Rattle.df_vm_store.specs.Meaning.{meanings}
use Rattle.df_vm_store.specs.Equal.{is_same_pair, are_same_pairs, fall, work}
use Rattle.df_vm_store.proofs.equal.compare_all.Given as goal

-- what is left decides, and there is room for it
abbrev pub invariant-loop-pair : goal.invariant-loop-pair
invariant-loop-pair l = record {
  same : are_same_pairs (meanings l.cells) l.pending.items ≡ is_same_pair (meanings l.cells) l.fn.first;
  falls : fall (length l.cells) (length l.cells) l.pending.items ≡ true;
  room : vec_capacity l.pending ≡ vec_capacity l.fn.pending;
}

abbrev pub decreases-loop-pair : goal.decreases-loop-pair
decreases-loop-pair l = work (meanings l.cells) l.pending.items
