-- A code that prints 1, and then calls a method of so many locals.
use Rattle.std.specs.Prelude.{ℕ, pos, List, [], ◌∷◌, codes}
use Rattle.df_nmach.specs.declared.instruction.Instruction.{Instruction}
use Rattle.df_nmach.specs.declared.instruction.Instruction.TheVariants as i
use Rattle.df_nmach.specs.declared.code.Shape.TheVariants as shapes
use Rattle.df_nmach.specs.State.{Method, Code}

abbrev pub calling_rows : List Instruction
calling_rows = i.Number (pos 1) ∷ i.Print 0 ∷ i.Call 1 ∷ i.Number (pos 2) ∷ i.Print 0 ∷ i.Return 0 ∷ []

abbrev pub calling : Method
calling = record { name = codes "Main"; parameters = 0; results = 0; locals = 0; instructions = calling_rows }

abbrev pub wide : ℕ → Method
wide locals = record { name = codes "Wide"; parameters = 0; results = 0; locals = locals; instructions = i.Return 0 ∷ [] }

abbrev pub refusing : ℕ → Code
refusing locals = record { methods = calling ∷ wide locals ∷ []; shapes = shapes.Number ∷ shapes.Truth ∷ shapes.Char ∷ shapes.Text ∷ [] }
