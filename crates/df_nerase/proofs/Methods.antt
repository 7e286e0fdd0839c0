-- Methods are found under their numbers.
use Rattle.std.proofs.Common.{◌≡◌, ℕ, zero, suc, List, [], ◌∷◌, map, length, take, slice_get, Some, refl}
use Rattle.std.specs.Option.{option_and_then}
use Rattle.df_lang.specs.Program.{Method, Decl, NewtypeDecl, MethodDecl, Program, as_method}
use Rattle.df_nerase.specs.Erasing.{methods_among, erase_method}
use Rattle.df_nerase.specs.Running.{MethodsAreFound}

found_among : (p : Program) (decls : List Decl) (id : ℕ) (method : Method) → option_and_then as_method (slice_get decls id) ≡ Some method
    → slice_get (map (erase_method p) (methods_among decls)) (length (methods_among (take id decls))) ≡ Some (erase_method p method)
found_among p [] id method e = cc
found_among p (NewtypeDecl newtype ∷ others) zero method e = cc
found_among p (MethodDecl m ∷ others) zero method e = let same : m ≡ method = cc in rw same refl
found_among p (NewtypeDecl newtype ∷ others) (suc id) method e = found_among p others id method e
found_among p (MethodDecl m ∷ others) (suc id) method e = found_among p others id method e

pub methods_are_found : MethodsAreFound
methods_are_found program number method there = found_among program program.decls number method there
