-- A code that does each instruction at the edges of what it takes, and prints what comes of it.
use Rattle.std.specs.Prelude.{pos, negsuc, true, false, List, [], ◌∷◌, codes}
use Rattle.df_nmach.specs.declared.instruction.UnaryOperator.TheVariants as unaries
use Rattle.df_nmach.specs.declared.instruction.BinaryOperator.TheVariants as binaries
use Rattle.df_nmach.specs.declared.instruction.Instruction.{Instruction}
use Rattle.df_nmach.specs.declared.instruction.Instruction.TheVariants as i
use Rattle.df_nmach.specs.declared.code.Shape.TheVariants as shapes
use Rattle.df_nmach.specs.State.{Method, Code}

abbrev pub edge_rows : List Instruction
edge_rows =
    i.Get 0 ∷ i.Set 2 ∷ i.Get 2 ∷ i.Print 0 ∷ i.Get 1 ∷ i.Print 0 ∷ i.Truth true ∷ i.Print 1
    ∷ i.Char 33 ∷ i.Print 2 ∷ i.Sequence 0 ∷ i.Print 3 ∷ i.Char 104 ∷ i.Char 105 ∷ i.Sequence 2 ∷ i.Print 3
    ∷ i.Truth false ∷ i.Unless 19 ∷ i.Print 0 ∷ i.Truth true ∷ i.Unless 18 ∷ i.Jump 23 ∷ i.Drop ∷ i.Number (pos 1)
    ∷ i.Drop ∷ i.Char 65 ∷ i.Unary unaries.Code ∷ i.Print 0 ∷ i.Char 127 ∷ i.Unary unaries.Code ∷ i.Print 0 ∷ i.Number (pos 65)
    ∷ i.Unary unaries.Character ∷ i.Print 2 ∷ i.Number (pos 0) ∷ i.Unary unaries.Character ∷ i.Unary unaries.Code ∷ i.Print 0 ∷ i.Number (pos 127) ∷ i.Unary unaries.Character
    ∷ i.Unary unaries.Code ∷ i.Print 0 ∷ i.Number (negsuc 170141183460469231731687303715884105727) ∷ i.Number (pos 170141183460469231731687303715884105727) ∷ i.Binary binaries.Less ∷ i.Print 1 ∷ i.Number (pos 0) ∷ i.Number (pos 0)
    ∷ i.Binary binaries.Less ∷ i.Print 1 ∷ i.Number (pos 0) ∷ i.Number (pos 0) ∷ i.Binary binaries.AtMost ∷ i.Print 1 ∷ i.Number (pos 1) ∷ i.Number (pos 0)
    ∷ i.Binary binaries.AtMost ∷ i.Print 1 ∷ i.Char 97 ∷ i.Char 98 ∷ i.Binary binaries.Less ∷ i.Print 1 ∷ i.Char 98 ∷ i.Char 97
    ∷ i.Binary binaries.AtMost ∷ i.Print 1 ∷ i.Number (negsuc 170141183460469231731687303715884105727) ∷ i.Number (negsuc 170141183460469231731687303715884105727) ∷ i.Binary binaries.Same ∷ i.Print 1 ∷ i.Number (pos 0) ∷ i.Char 0
    ∷ i.Binary binaries.Same ∷ i.Print 1 ∷ i.Truth false ∷ i.Number (pos 0) ∷ i.Binary binaries.Same ∷ i.Print 1 ∷ i.Truth true ∷ i.Truth true
    ∷ i.Binary binaries.Same ∷ i.Print 1 ∷ i.Sequence 0 ∷ i.Sequence 0 ∷ i.Binary binaries.Same ∷ i.Print 1 ∷ i.Char 97 ∷ i.Char 97
    ∷ i.Binary binaries.Same ∷ i.Print 1 ∷ i.Char 104 ∷ i.Char 105 ∷ i.Sequence 2 ∷ i.Char 104 ∷ i.Char 111 ∷ i.Sequence 2
    ∷ i.Binary binaries.Same ∷ i.Print 1 ∷ i.Char 104 ∷ i.Char 105 ∷ i.Sequence 2 ∷ i.Set 2 ∷ i.Get 2 ∷ i.Get 2
    ∷ i.Binary binaries.Same ∷ i.Print 1 ∷ i.Truth false ∷ i.Unary unaries.Not ∷ i.Print 1 ∷ i.Truth true ∷ i.Unary unaries.Not ∷ i.Print 1
    ∷ i.Number (pos 8) ∷ i.Number (pos 1) ∷ i.Number (pos 2) ∷ i.Number (pos 3) ∷ i.Call 1 ∷ i.Print 0 ∷ i.Print 0 ∷ i.Print 0
    ∷ i.Print 0 ∷ i.Get 0 ∷ i.Get 1 ∷ i.Return 2 ∷ []

abbrev pub turn_rows : List Instruction
turn_rows =
    i.Get 2 ∷ i.Get 0 ∷ i.Get 1 ∷ i.Get 3 ∷ i.Print 0 ∷ i.Return 3 ∷ []

abbrev pub edge_method : Method
edge_method = record { name = codes "Main"; parameters = 2; results = 2; locals = 1; instructions = edge_rows }

abbrev pub turn_method : Method
turn_method = record { name = codes "C.turn'"; parameters = 3; results = 3; locals = 1; instructions = turn_rows }

abbrev pub edges : Code
edges = record { methods = edge_method ∷ turn_method ∷ []; shapes = shapes.Number ∷ shapes.Truth ∷ shapes.Char ∷ shapes.Text ∷ [] }
