-- The ends of the newtype with a number, from the declaration of that number.
use Rattle.std.proofs.Common.{◌≡◌, ◌<◌, ℕ, length, get_or, sym, List, Option, Some, None, slice_get, refl, ap, ◌∙◌}
use Rattle.std.specs.Option.{option_map, option_and_then}
use Rattle.std.proofs.lemmas.Option.{slice_get-map, slice_get-get_or}
use Rattle.df_lang.specs.declared.decl.Decl.{Decl}
use Rattle.df_lang.specs.DeclView.{decl_of, program_with}
use Rattle.df_form.specs.World.{Ends, ends_at, ends_of_decl, of_program}

-- what stands at a place of a list
pub got : {A : Type 0} (xs : List A) (n : ℕ) (x : A) → n < length xs → x ≡ get_or xs n x → slice_get xs n ≡ Some x
got xs n x less e = slice_get-get_or xs n x less ∙ ap (λ y. Some y) (sym e)

pub decl_ends : (decls : List Decl) (number : ℕ) (found : Option Decl) → slice_get decls number ≡ found → ends_at (of_program (program_with decls)) number ≡ option_and_then (λ (decl : Decl). ends_of_decl (decl_of decl)) found
decl_ends decls number found e =
    ap (option_and_then (λ (ends : Option Ends). ends)) (slice_get-map ends_of_decl (program_with decls).decls number ∙ ap (option_map ends_of_decl) (slice_get-map decl_of decls number ∙ ap (option_map decl_of) e)) ∙ by found
  where
    by : (found : Option Decl) → option_and_then (λ (ends : Option Ends). ends) (option_map ends_of_decl (option_map decl_of found)) ≡ option_and_then (λ (decl : Decl). ends_of_decl (decl_of decl)) found
    by None = refl
    by (Some decl) = refl
