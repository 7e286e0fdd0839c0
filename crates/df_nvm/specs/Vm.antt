-- What a machine with its code stands for.
use Rattle.std.specs.Prelude.{ℕ, suc, vec_capacity}
use Rattle.df_nmach.specs.State.{Code, State}
use Rattle.df_nmach.specs.View.{code_of}
use Rattle.df_nvm.specs.declared.vm.Vm.{Vm}
use Rattle.df_nvm.specs.Frames.{state_of}
use Rattle.df_nvm.specs.Stack.{words_of}

-- its state, as one that has printed nothing
abbrev pub machine_of : Vm → State
machine_of vm = state_of vm.machine

-- the code that it runs
abbrev pub code_in : Vm → Code
code_in vm = code_of vm.code.now

-- for how many locals and operands of all frames there is memory, those that are there included
abbrev pub words_in : Vm → ℕ
words_in vm = words_of vm.machine.stack

-- for how many frames there is memory, those that are there included
abbrev pub frames_in : Vm → ℕ
frames_in vm = suc (vec_capacity vm.machine.waiting)
