-- The graph of calls of a program.
use Rattle.std.specs.Prelude.{ℕ, List, [], map}
use Rattle.df_lang.specs.Groups.{callees_of_all}
use Rattle.df_lang.specs.Program.{Decl, NewtypeDecl, MethodDecl, Program}

-- what a declaration calls
abbrev pub callees_in : Decl → List ℕ
callees_in (NewtypeDecl newtype) = []
callees_in (MethodDecl method) = callees_of_all method.body

-- for each declaration
abbrev pub calls_of : Program → List (List ℕ)
calls_of program = map callees_in program.decls
