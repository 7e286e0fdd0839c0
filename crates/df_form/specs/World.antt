-- What formulas know of the program that they speak of.
use Rattle.std.specs.Prelude.{ℕ, ℤ, ◌&&◌, Bool, int_le, List, map, slice_get, Option, None, Some}
use Rattle.std.specs.Option.{option_and_then}
use Rattle.df_lang.specs.Program.{Program, Decl, NewtypeDecl, MethodDecl}
use Rattle.df_lang.specs.View.{program_of}
use Rattle.df_form.specs.declared.world.World as declared

-- the whole numbers from one end to the other, both inside
pub record Ends : Type 0 where
  pub low : ℤ
  pub high : ℤ

abbrev pub is_within : Ends → ℤ → Bool
is_within ends n = int_le ends.low n && int_le n ends.high

pub record World : Type 0 where
  -- the ends of each newtype by the number of its declaration; none where that declares something else
  pub newtypes : List (Option Ends)

abbrev pub ends_at : World → ℕ → Option Ends
ends_at world number = option_and_then (λ (found : Option Ends). found) (slice_get world.newtypes number)

abbrev pub ends_of_decl : Decl → Option Ends
ends_of_decl (NewtypeDecl n) = Some (record { low = n.low; high = n.high })
ends_of_decl (MethodDecl method) = None

-- the newtypes among the declarations of a program
abbrev pub of_program : Program → World
of_program program = record { newtypes = map ends_of_decl program.decls }

-- the code's world, without where it lies in memory
abbrev pub world_of : declared.World → World
world_of world = of_program (program_of world.program.now)
