-- The values of the frames below, and the locals and operands of the frame on top.
use Rattle.std.specs.Prelude.{ℕ, ◌+◌, ◌-◌, List, take, drop, reverse, vec_len, vec_capacity}
use Rattle.df_nmach.specs.Value.{Value}
use Rattle.df_nmach.specs.View.{values_of}
use Rattle.df_nvm.specs.declared.stack.Stack.{Stack}

abbrev pub below_of : Stack → List Value
below_of s = take s.base (values_of s.values.items)

abbrev pub locals_of : Stack → List Value
locals_of s = take s.locals (drop s.base (values_of s.values.items))

-- the first is on top
abbrev pub operands_of : Stack → List Value
operands_of s = reverse (drop (s.base + s.locals) (values_of s.values.items))

-- for how many values there is memory, these included
abbrev pub words_of : Stack → ℕ
words_of s = vec_capacity s.values

-- for how many more there is memory already
abbrev pub room_of : Stack → ℕ
room_of s = vec_capacity s.values - vec_len s.values
