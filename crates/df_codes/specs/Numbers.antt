-- Codes that divide numbers, and that compute and compare them otherwise: at both ends, and in all signs.
use Rattle.std.specs.Prelude.{pos, negsuc, List, [], ◌∷◌, codes}
use Rattle.df_nmach.specs.declared.instruction.UnaryOperator.TheVariants as unaries
use Rattle.df_nmach.specs.declared.instruction.BinaryOperator.TheVariants as binaries
use Rattle.df_nmach.specs.declared.instruction.Instruction.{Instruction}
use Rattle.df_nmach.specs.declared.instruction.Instruction.TheVariants as i
use Rattle.df_nmach.specs.declared.code.Shape.TheVariants as shapes
use Rattle.df_nmach.specs.State.{Method, Code}
use Rattle.df_codes.specs.Ranges.{digit, all}

abbrev pub quotient_rows : List Instruction
quotient_rows =
    i.Number (pos 7) ∷ i.Number (pos 2) ∷ i.Binary (binaries.Divide digit) ∷ i.Print 0 ∷ i.Number (pos 7) ∷ i.Number (pos 2) ∷ i.Binary (binaries.Modulo digit) ∷ i.Print 0
    ∷ i.Number (pos 7) ∷ i.Number (negsuc 1) ∷ i.Binary (binaries.Divide digit) ∷ i.Print 0 ∷ i.Number (pos 7) ∷ i.Number (negsuc 1) ∷ i.Binary (binaries.Modulo digit) ∷ i.Print 0
    ∷ i.Number (negsuc 6) ∷ i.Number (pos 2) ∷ i.Binary (binaries.Divide digit) ∷ i.Print 0 ∷ i.Number (negsuc 6) ∷ i.Number (pos 2) ∷ i.Binary (binaries.Modulo digit) ∷ i.Print 0
    ∷ i.Number (negsuc 6) ∷ i.Number (negsuc 1) ∷ i.Binary (binaries.Divide digit) ∷ i.Print 0 ∷ i.Number (negsuc 6) ∷ i.Number (negsuc 1) ∷ i.Binary (binaries.Modulo digit) ∷ i.Print 0
    ∷ i.Number (pos 170141183460469231731687303715884105727) ∷ i.Number (pos 2) ∷ i.Binary (binaries.Divide all) ∷ i.Print 0 ∷ i.Number (negsuc 170141183460469231731687303715884105727) ∷ i.Number (pos 2) ∷ i.Binary (binaries.Divide all) ∷ i.Print 0
    ∷ i.Number (negsuc 170141183460469231731687303715884105727) ∷ i.Number (pos 1) ∷ i.Binary (binaries.Divide all) ∷ i.Print 0 ∷ i.Number (pos 170141183460469231731687303715884105727) ∷ i.Number (negsuc 0) ∷ i.Binary (binaries.Divide all) ∷ i.Print 0
    ∷ i.Number (negsuc 170141183460469231731687303715884105727) ∷ i.Number (pos 170141183460469231731687303715884105727) ∷ i.Binary (binaries.Divide all) ∷ i.Print 0 ∷ i.Number (negsuc 0) ∷ i.Number (negsuc 170141183460469231731687303715884105727) ∷ i.Binary (binaries.Divide all) ∷ i.Print 0
    ∷ i.Number (negsuc 0) ∷ i.Number (pos 170141183460469231731687303715884105727) ∷ i.Binary (binaries.Divide all) ∷ i.Print 0 ∷ i.Number (pos 170141183460469231731687303715884105727) ∷ i.Number (negsuc 170141183460469231731687303715884105727) ∷ i.Binary (binaries.Divide all) ∷ i.Print 0
    ∷ i.Number (negsuc 170141183460469231731687303715884105727) ∷ i.Number (negsuc 0) ∷ i.Binary (binaries.Modulo all) ∷ i.Print 0 ∷ i.Number (pos 170141183460469231731687303715884105727) ∷ i.Number (negsuc 170141183460469231731687303715884105727) ∷ i.Binary (binaries.Modulo all) ∷ i.Print 0
    ∷ i.Number (negsuc 170141183460469231731687303715884105727) ∷ i.Number (pos 170141183460469231731687303715884105727) ∷ i.Binary (binaries.Modulo all) ∷ i.Print 0 ∷ i.Number (negsuc 0) ∷ i.Number (pos 170141183460469231731687303715884105727) ∷ i.Binary (binaries.Modulo all) ∷ i.Print 0
    ∷ i.Number (negsuc 17) ∷ i.Number (pos 2) ∷ i.Binary (binaries.Divide digit) ∷ i.Print 0 ∷ i.Number (negsuc 8) ∷ i.Number (negsuc 0) ∷ i.Binary (binaries.Divide digit) ∷ i.Print 0
    ∷ i.Return 0 ∷ []

abbrev pub quotient_method : Method
quotient_method = record { name = codes "Main"; parameters = 0; results = 0; locals = 0; instructions = quotient_rows }

abbrev pub quotients : Code
quotients = record { methods = quotient_method ∷ []; shapes = shapes.Number ∷ shapes.Truth ∷ shapes.Char ∷ shapes.Text ∷ [] }

abbrev pub number_rows : List Instruction
number_rows =
    i.Number (pos 170141183460469231731687303715884105727) ∷ i.Number (pos 1) ∷ i.Binary (binaries.Multiply all) ∷ i.Print 0 ∷ i.Number (negsuc 170141183460469231731687303715884105727) ∷ i.Number (pos 1) ∷ i.Binary (binaries.Multiply all) ∷ i.Print 0
    ∷ i.Number (pos 170141183460469231731687303715884105727) ∷ i.Number (negsuc 0) ∷ i.Binary (binaries.Multiply all) ∷ i.Print 0 ∷ i.Number (negsuc 170141183460469231731687303715884105727) ∷ i.Number (pos 170141183460469231731687303715884105727) ∷ i.Binary (binaries.Add all) ∷ i.Print 0
    ∷ i.Number (pos 170141183460469231731687303715884105727) ∷ i.Number (pos 0) ∷ i.Binary (binaries.Add all) ∷ i.Print 0 ∷ i.Number (negsuc 0) ∷ i.Number (negsuc 170141183460469231731687303715884105727) ∷ i.Binary (binaries.Subtract all) ∷ i.Print 0
    ∷ i.Number (negsuc 170141183460469231731687303715884105727) ∷ i.Number (pos 0) ∷ i.Binary (binaries.Subtract all) ∷ i.Print 0 ∷ i.Number (pos 3) ∷ i.Number (negsuc 2) ∷ i.Binary (binaries.Multiply digit) ∷ i.Print 0
    ∷ i.Number (negsuc 2) ∷ i.Number (negsuc 2) ∷ i.Binary (binaries.Multiply digit) ∷ i.Print 0 ∷ i.Number (pos 4) ∷ i.Number (pos 5) ∷ i.Binary (binaries.Add digit) ∷ i.Print 0
    ∷ i.Number (negsuc 3) ∷ i.Number (negsuc 4) ∷ i.Binary (binaries.Add digit) ∷ i.Print 0 ∷ i.Number (pos 4) ∷ i.Number (negsuc 4) ∷ i.Binary (binaries.Subtract digit) ∷ i.Print 0
    ∷ i.Number (pos 9) ∷ i.Unary (unaries.Negate digit) ∷ i.Print 0 ∷ i.Number (negsuc 8) ∷ i.Unary (unaries.Negate digit) ∷ i.Print 0 ∷ i.Number (pos 170141183460469231731687303715884105727) ∷ i.Unary (unaries.Negate all)
    ∷ i.Print 0 ∷ i.Number (negsuc 8) ∷ i.Unary (unaries.Fit digit) ∷ i.Print 0 ∷ i.Number (pos 9) ∷ i.Unary (unaries.Fit digit) ∷ i.Print 0 ∷ i.Number (negsuc 170141183460469231731687303715884105727)
    ∷ i.Unary (unaries.Fit all) ∷ i.Print 0 ∷ i.Number (pos 170141183460469231731687303715884105727) ∷ i.Unary (unaries.Fit all) ∷ i.Print 0 ∷ i.Return 0 ∷ []

abbrev pub number_method : Method
number_method = record { name = codes "Main"; parameters = 0; results = 0; locals = 0; instructions = number_rows }

abbrev pub numbers : Code
numbers = record { methods = number_method ∷ []; shapes = shapes.Number ∷ shapes.Truth ∷ shapes.Char ∷ shapes.Text ∷ [] }
