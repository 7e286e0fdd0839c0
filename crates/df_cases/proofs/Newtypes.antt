-- Two newtypes are a well-typed program.
use Rattle.std.proofs.Common.{◌≡◌, true, List, [], ◌∷◌, refl, sym, subst, arith}
use Rattle.std.proofs.lemmas.Int.{ints}
use Rattle.df_lang.specs.declared.decl.Newtype as declared
use Rattle.df_lang.specs.declared.decl.Decl.{Decl}
use Rattle.df_lang.specs.declared.decl.Decl.TheVariants as decls
use Rattle.df_lang.specs.DeclView.{newtype_of, program_with}
use Rattle.df_lang.specs.Typing.{is_newtype, is_well_typed}

holds_its_default : (n : declared.Newtype) → is_newtype (newtype_of n) ≡ true
holds_its_default n =
    let inside = n.holds_default in
    grind (arith, ints, inside.0, inside.1)

pub are_well_typed : (a b : declared.Newtype) (ds : List Decl) → ds ≡ decls.Newtype a ∷ decls.Newtype b ∷ [] → is_well_typed (program_with ds) ≡ true
are_well_typed a b ds same = subst (λ (xs : List Decl). is_well_typed (program_with xs) ≡ true) (sym same) (rw (holds_its_default a, holds_its_default b) refl)
