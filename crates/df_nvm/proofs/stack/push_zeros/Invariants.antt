use Rattle.std.proofs.Common.{◌≡◌, ◌≤◌, ◌+◌, ◌++◌, replicate, pos, vec_len, vec_capacity}
use Rattle.df_nmach.specs.Value.{Number}
use Rattle.df_nmach.specs.View.{values_of}
use Rattle.df_nvm.proofs.stack.push_zeros.Given as goal

abbrev pub invariant-loop : goal.invariant-loop
invariant-loop l = record {
  zeros : values_of l.values.items ≡ values_of l.initial.values.items ++ replicate l.counter (Number (pos 0));
  long : vec_len l.values ≡ vec_len l.initial.values + l.counter;
  room : vec_len l.initial.values + l.fn.count ≤ vec_capacity l.values;
  grown : vec_capacity l.initial.values ≤ vec_capacity l.values;
}
