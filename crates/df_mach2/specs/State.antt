-- Code and states of the machine, as lists.
use Rattle.std.specs.Prelude.{ℕ, List}
use Rattle.df_mach2.specs.declared.instruction.Instruction.{Instruction}
use Rattle.df_mach2.specs.Shape.{Shape}
use Rattle.df_mach2.specs.Value.{Value}

-- a method: its name, how many parameters, results and locals past the parameters it has, its instructions
pub record Method : Type 0 where
  pub name : List ℕ
  pub parameters : ℕ
  pub results : ℕ
  pub locals : ℕ
  pub instructions : List Instruction

pub record Code : Type 0 where
  pub methods : List Method
  pub shapes : List Shape

-- an object by its slots, or an array by its elements
pub data Object : Type 0 where
  Slots : List Value → Object
  Array : List Value → Object

-- the objects that there are, each with its reference
abbrev pub Heap : Type 0
Heap = List (ℕ × Object)

-- A method that runs or waits: its number, the number of its next instruction, its locals, and its operands, of
-- which the last is on top.
pub record Frame : Type 0 where
  pub method : ℕ
  pub next : ℕ
  pub locals : List Value
  pub operands : List Value

-- the heap, the frames, of which the first runs and each waits for the one before it, and the printed text
pub record State : Type 0 where
  pub heap : Heap
  pub frames : List Frame
  pub text : List ℕ

-- what the machine leaves: the results in their order, the heap, and the printed text
pub record Final : Type 0 where
  pub results : List Value
  pub heap : Heap
  pub text : List ℕ
