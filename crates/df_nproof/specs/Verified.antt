-- The outcomes of a program of which all is proved.
use Rattle.std.specs.Prelude.{List, [], ◌∷◌}
use Rattle.std.specs.List.{flat_map}
use Rattle.df_lang.specs.Program.{Decl, NewtypeDecl, MethodDecl}
use Rattle.df_report.specs.Report.{Outcome}

-- of a method one without failures, and of another declaration none
abbrev pub verified_outcome : Decl → List Outcome
verified_outcome (NewtypeDecl newtype) = []
verified_outcome (MethodDecl method) = record { name = method.declared.text; failures = [] } ∷ []

abbrev pub verified_outcomes : List Decl → List Outcome
verified_outcomes decls = flat_map verified_outcome decls
