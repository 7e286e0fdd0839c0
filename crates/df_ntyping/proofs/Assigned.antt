-- The first use without a value, by computation.
use Rattle.std.proofs.Common.{ℕ, suc, Bool, true, false, List, [], ◌∷◌, Option, None, Some}
use Rattle.std.specs.Prelude.{if◌then◌else◌, option_map, replicate}
use Rattle.df_base.specs.declared.pos.Pos.{Pos}
use Rattle.df_lang.specs.Program.{Decl, NewtypeDecl, MethodDecl, Program}
use Rattle.df_lang.specs.Typing.{is_well_typed}
use Rattle.df_lang.specs.Assignment.{Use}
use Rattle.df_ntree.specs.File.{File}
use Rattle.df_ntyping.specs.Unassigned.{Missing, uses_missing, comes_before}
use Rattle.df_ntyping.proofs.Elaborated.{program_in}

abbrev pub missing_from : ℕ → Bool → List Use → List Missing
missing_from method at_end [] = []
missing_from method at_end (one ∷ others) = record { method = method; at_end = at_end; of = one } ∷ missing_from method at_end others

abbrev pub earlier : Missing → Option Missing → Missing
earlier one None = one
earlier one (Some other) = if comes_before other one then other else one

abbrev pub least : List Missing → Option Missing → Option Missing
least [] otherwise = otherwise
least (one ∷ others) otherwise = Some (earlier one (least others otherwise))

abbrev pub least_in : ℕ → List Decl → Option Missing
least_in number [] = None
least_in number (NewtypeDecl newtype ∷ others) = least_in (suc number) others
least_in number (MethodDecl m ∷ others) = least (missing_from number false (uses_missing m false)) (least (missing_from number true (uses_missing m true)) (least_in (suc number) others))

abbrev pub pos_in : Option Missing → Option Pos
pos_in None = None
pos_in (Some missing) = Some missing.of.pos

-- whether the program is well typed, and where the first use without a value is
abbrev pub checked : File → Option (Bool × Option Pos)
checked file = option_map (λ (program : Program). (is_well_typed program, pos_in (least_in 0 program.decls))) (program_in (replicate 40 []) file)
