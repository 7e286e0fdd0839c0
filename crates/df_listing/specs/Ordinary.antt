-- Codes as there are: each name is one, and each number is one that a machine holds.
use Rattle.std.specs.Prelude.{◌≡◌, ⊤, ℕ, ◌<◌, ◌^◌, ℤ, pos, negsuc, true, length}
use Rattle.std.specs.List.{AllByRecursion}
use Rattle.df_nmach.specs.declared.instruction.Range.{Range}
use Rattle.df_nmach.specs.declared.instruction.UnaryOperator.{UnaryOperator}
use Rattle.df_nmach.specs.declared.instruction.UnaryOperator.TheVariants as unaries
use Rattle.df_nmach.specs.declared.instruction.BinaryOperator.{BinaryOperator}
use Rattle.df_nmach.specs.declared.instruction.BinaryOperator.TheVariants as binaries
use Rattle.df_nmach.specs.declared.instruction.Instruction.{Instruction}
use Rattle.df_nmach.specs.declared.instruction.Instruction.TheVariants as instructions
use Rattle.df_nmach.specs.Name.{is_name}
use Rattle.df_nmach.specs.State.{Method, Code}

-- a number of 128 bits
abbrev pub Fits : ℤ → Type 0
Fits (pos n) = n < 2 ^ 127
Fits (negsuc n) = n < 2 ^ 127

-- a count, or the number of a local, an instruction, a method or a shape
abbrev pub Counts : ℕ → Type 0
Counts n = n < 2 ^ 64

abbrev pub FittingRange : Range → Type 0
FittingRange r = Fits r.low × Fits r.high

abbrev pub FittingUnary : UnaryOperator → Type 0
FittingUnary (unaries.Negate r) = FittingRange r
FittingUnary (unaries.Fit r) = FittingRange r
FittingUnary operator = ⊤

abbrev pub FittingBinary : BinaryOperator → Type 0
FittingBinary (binaries.Add r) = FittingRange r
FittingBinary (binaries.Subtract r) = FittingRange r
FittingBinary (binaries.Multiply r) = FittingRange r
FittingBinary (binaries.Divide r) = FittingRange r
FittingBinary (binaries.Modulo r) = FittingRange r
FittingBinary operator = ⊤

-- the numbers of an instruction fit
abbrev pub Fitting : Instruction → Type 0
Fitting (instructions.Number k) = Fits k
Fitting (instructions.Truth b) = ⊤
Fitting (instructions.Char k) = Counts k
Fitting (instructions.Get i) = Counts i
Fitting (instructions.Set i) = Counts i
Fitting instructions.Drop = ⊤
Fitting (instructions.Unary operator) = FittingUnary operator
Fitting (instructions.Binary operator) = FittingBinary operator
Fitting (instructions.Jump p) = Counts p
Fitting (instructions.Unless p) = Counts p
Fitting (instructions.Call m) = Counts m
Fitting (instructions.Return k) = Counts k
Fitting (instructions.Sequence n) = Counts n
Fitting (instructions.Print s) = Counts s

-- the name is one, and the counts fit
pub record HasHeader (m : Method) : Type 0 where
  pub name : is_name m.name ≡ true
  pub parameters : Counts m.parameters
  pub results : Counts m.results
  pub locals : Counts m.locals
  pub count : Counts (length m.instructions)

pub record IsOrdinaryMethod (m : Method) : Type 0 where
  pub header : HasHeader m
  pub instructions : AllByRecursion Fitting m.instructions

abbrev pub IsOrdinary : Code → Type 0
IsOrdinary code = AllByRecursion IsOrdinaryMethod code.methods
