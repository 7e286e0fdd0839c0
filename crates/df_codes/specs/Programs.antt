-- Methods of small programs, as the emitter lays them out: parameters, results, a scratch local, and the others.
use Rattle.std.specs.Prelude.{ℕ, pos, Bool, true, false, List, [], ◌∷◌, codes}
use Rattle.df_nmach.specs.declared.instruction.UnaryOperator.TheVariants as unaries
use Rattle.df_nmach.specs.declared.instruction.BinaryOperator.TheVariants as binaries
use Rattle.df_nmach.specs.declared.instruction.Instruction.{Instruction}
use Rattle.df_nmach.specs.declared.instruction.Instruction.TheVariants as i
use Rattle.df_nmach.specs.declared.code.Shape.TheVariants as shapes
use Rattle.df_nmach.specs.State.{Method, Code}
use Rattle.df_codes.specs.Ranges.{bits}

-- if n == 0 { b := AT_ZERO; } else { b := OTHER(n - 1); }
abbrev pub parity_rows : Bool → ℕ → List Instruction
parity_rows at_zero other =
    i.Get 0 ∷ i.Number (pos 0) ∷ i.Binary binaries.Same ∷ i.Unless 7 ∷ i.Truth at_zero ∷ i.Set 1 ∷ i.Jump 12
    ∷ i.Get 0 ∷ i.Number (pos 1) ∷ i.Binary (binaries.Subtract bits) ∷ i.Call other ∷ i.Set 1 ∷ i.Get 1 ∷ i.Return 1 ∷ []

abbrev pub even : Method
even = record { name = codes "Even"; parameters = 1; results = 1; locals = 2; instructions = parity_rows true 1 }

abbrev pub odd : Method
odd = record { name = codes "Odd"; parameters = 1; results = 1; locals = 2; instructions = parity_rows false 0 }

-- var b := Even(7); print b, "\n";
abbrev pub seven_rows : List Instruction
seven_rows = i.Number (pos 7) ∷ i.Call 0 ∷ i.Set 1 ∷ i.Get 1 ∷ i.Print 1 ∷ i.Char 10 ∷ i.Sequence 1 ∷ i.Print 3 ∷ i.Return 0 ∷ []

abbrev pub seven : Method
seven = record { name = codes "Main"; parameters = 0; results = 0; locals = 2; instructions = seven_rows }

-- var i := 0; while i < 3 { print i; i := i + 1; }
abbrev pub loop_rows : List Instruction
loop_rows =
    i.Number (pos 0) ∷ i.Set 1 ∷ i.Get 1 ∷ i.Number (pos 3) ∷ i.Binary binaries.Less ∷ i.Unless 13 ∷ i.Get 1
    ∷ i.Print 0 ∷ i.Get 1 ∷ i.Number (pos 1) ∷ i.Binary (binaries.Add bits) ∷ i.Set 1 ∷ i.Jump 2 ∷ i.Return 0 ∷ []

abbrev pub loop : Method
loop = record { name = codes "Loop"; parameters = 0; results = 0; locals = 2; instructions = loop_rows }

-- Three loops, of which the innermost ends by a `break` in its second turn: i and j go over 0 and 1, k goes from 0 on,
-- and ijk is printed where k is not 1.
abbrev pub nest_rows : List Instruction
nest_rows =
    i.Number (pos 0) ∷ i.Set 1 ∷ i.Get 1 ∷ i.Number (pos 2) ∷ i.Binary binaries.Less ∷ i.Unless 45
    ∷ i.Number (pos 0) ∷ i.Set 2 ∷ i.Get 2 ∷ i.Number (pos 2) ∷ i.Binary binaries.Less ∷ i.Unless 40
    ∷ i.Number (pos 0) ∷ i.Set 3 ∷ i.Get 3 ∷ i.Number (pos 3) ∷ i.Binary binaries.Less ∷ i.Unless 35
    ∷ i.Get 3 ∷ i.Number (pos 1) ∷ i.Binary binaries.Same ∷ i.Unless 24 ∷ i.Jump 35 ∷ i.Jump 24
    ∷ i.Get 1 ∷ i.Print 0 ∷ i.Get 2 ∷ i.Print 0 ∷ i.Get 3 ∷ i.Print 0
    ∷ i.Get 3 ∷ i.Number (pos 1) ∷ i.Binary (binaries.Add bits) ∷ i.Set 3 ∷ i.Jump 14
    ∷ i.Get 2 ∷ i.Number (pos 1) ∷ i.Binary (binaries.Add bits) ∷ i.Set 2 ∷ i.Jump 8
    ∷ i.Get 1 ∷ i.Number (pos 1) ∷ i.Binary (binaries.Add bits) ∷ i.Set 1 ∷ i.Jump 2 ∷ i.Return 0 ∷ []

abbrev pub nest : Method
nest = record { name = codes "Nest"; parameters = 0; results = 0; locals = 4; instructions = nest_rows }

-- i := 0; while i < n { i := i + 1; }
abbrev pub count_rows : List Instruction
count_rows =
    i.Number (pos 0) ∷ i.Set 1 ∷ i.Get 1 ∷ i.Get 0 ∷ i.Binary binaries.Less ∷ i.Unless 11 ∷ i.Get 1
    ∷ i.Number (pos 1) ∷ i.Binary (binaries.Add bits) ∷ i.Set 1 ∷ i.Jump 2 ∷ i.Get 1 ∷ i.Return 1 ∷ []

abbrev pub count : Method
count = record { name = codes "Count"; parameters = 1; results = 1; locals = 2; instructions = count_rows }

-- Whether the Fibonacci number is odd: if n < 2 { b := n == 1; } else { var a := Fib(n - 1); var c := Fib(n - 2); b := a != c; }
abbrev pub fib_rows : List Instruction
fib_rows =
    i.Get 0 ∷ i.Number (pos 2) ∷ i.Binary binaries.Less ∷ i.Unless 9 ∷ i.Get 0 ∷ i.Number (pos 1) ∷ i.Binary binaries.Same
    ∷ i.Set 1 ∷ i.Jump 24 ∷ i.Get 0 ∷ i.Number (pos 1) ∷ i.Binary (binaries.Subtract bits) ∷ i.Call 6 ∷ i.Set 3
    ∷ i.Get 0 ∷ i.Number (pos 2) ∷ i.Binary (binaries.Subtract bits) ∷ i.Call 6 ∷ i.Set 4
    ∷ i.Get 3 ∷ i.Get 4 ∷ i.Binary binaries.Same ∷ i.Unary unaries.Not ∷ i.Set 1 ∷ i.Get 1 ∷ i.Return 1 ∷ []

abbrev pub fib : Method
fib = record { name = codes "Fib"; parameters = 1; results = 1; locals = 4; instructions = fib_rows }

abbrev pub programs : Code
programs = record { methods = even ∷ odd ∷ seven ∷ loop ∷ nest ∷ count ∷ fib ∷ []; shapes = shapes.Number ∷ shapes.Truth ∷ shapes.Char ∷ shapes.Text ∷ [] }
