-- The code of the program, and its run to its end.
use Rattle.std.proofs.Common.{◌≡◌, List, [], ◌∷◌, codes, refl}
use Rattle.std.specs.Fmt.{digits}
use Rattle.df_lang.specs.declared.ty.Ty.{Ty}
use Rattle.df_lang.specs.declared.ty.Ty.TheVariants as types
use Rattle.df_lang.specs.declared.decl.Decl.{Decl}
use Rattle.df_lang.specs.DeclView.{decl_of, program_with}
use Rattle.df_nmach.specs.declared.instruction.Instruction.TheVariants as i
use Rattle.df_nmach.specs.State.{Code}
use Rattle.df_nmach.specs.Step.{Ended}
use Rattle.df_nmach.specs.Run.{and_then, machine_run, start_of, NeverFaults}
use Rattle.df_nback.specs.Run.{code_for}
use Rattle.df_codes.specs.Programs.{loop, programs}
use Rattle.df_codes.proofs.Running.{ends_never_faults}
use Rattle.df_back_tests.specs.Digits.{bits, printing, entry, program}

-- the loop as it stands among the codes by hand, and the entry
abbrev pub code : Code
code = record { methods = loop ∷ record { name = codes "Main"; parameters = 0; results = 0; locals = 1; instructions = i.Call 0 ∷ i.Return 0 ∷ [] } ∷ []; shapes = programs.shapes }

pub compiles_to : code_for (program (types.Newtype 0)) ≡ code
compiles_to = refl

code_ends : and_then (start_of code 1 [] []) (machine_run code 42) ≡ Ended (record { results = []; heap = []; text = codes "012" })
unfolding digits
code_ends = refl

pub code_never : NeverFaults code (start_of code 1 [] [])
code_never = ends_never_faults code (start_of code 1 [] []) 42 _ code_ends

pub same_program : (ty : Ty) (decls : List Decl) (a b c : Decl) → decls ≡ a ∷ b ∷ c ∷ [] → decl_of a ≡ bits → decl_of b ≡ printing ty → decl_of c ≡ entry → program_with decls ≡ program ty
same_program ty decls a b c items of_a of_b of_c = rw (items, of_a, of_b, of_c) refl
