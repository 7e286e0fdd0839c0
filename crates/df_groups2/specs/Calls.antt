-- The graph of calls of a program.
use Rattle.std.specs.Prelude.{ℕ, List, map}
use Rattle.df_types.specs.Program.{Program}
use Rattle.df_types.specs.Calls.{callees}

-- what each declaration calls
abbrev pub calls_of : Program → List (List ℕ)
calls_of program = map callees program.decls
