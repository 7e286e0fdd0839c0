-- What is to hold of names and typing.
use Rattle.std.specs.Prelude.{◌≡◌, Option, None, Some}
use Rattle.df_typing.specs.Tree.{Asts}
use Rattle.df_typing.specs.Least.{Fault, IsLeast, IsFaultless, told}
use Rattle.df_typing.specs.Declarations.{asked_of_file}

-- what a file is told to break
abbrev pub fault_in : Asts → Option Fault
fault_in file = told None (asked_of_file file)

-- What is told is the least that is broken.
abbrev pub ToldIsLeast : Type 0
ToldIsLeast = (file : Asts) (fault : Fault) → fault_in file ≡ Some fault → IsLeast (asked_of_file file) fault

-- Where nothing is told, nothing is broken.
abbrev pub SilentIsFaultless : Type 0
SilentIsFaultless = (file : Asts) → fault_in file ≡ None → IsFaultless (asked_of_file file)
