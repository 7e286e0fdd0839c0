use Rattle.std.proofs.Common.{◌≡◌, ◌≤◌, map, take, true, vec_capacity}
use Rattle.df_vm_store.specs.Meaning.{value_in, are_within}
use Rattle.df_vm_store.specs.View.{values_in, size_of}
use Rattle.df_vm_store.proofs.compact.carry_all.Given as goal

-- those so far are carried over
abbrev pub invariant-loop-word : goal.invariant-loop-word
invariant-loop-word l = record {
  values : map (value_in (values_in l.fn.copy)) l.moved.items ≡ map (value_in (values_in l.fn.store)) (take l.word-index l.words);
  within : are_within (size_of l.fn.copy) l.moved.items ≡ true;
  room : l.room ≤ vec_capacity l.moved;
}
