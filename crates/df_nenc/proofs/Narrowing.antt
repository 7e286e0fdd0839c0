-- What is asked of a value at a place of another type.
use Rattle.df_nenc.proofs.Words.{◌≡◌, true, false, List, [], Result, Ok, Err, OnOk, refl, AllocError, Pos, Ty, Node, Term, Numbers, sort_of_type, Condition, in_range, narrowing, narrows, Adds, DeclaredCondition}
use Rattle.df_lang.specs.declared.ty.Ty.TheVariants as types
use Rattle.df_nenc.proofs.Adding.{adds_as}

pub owed_as : (r : Result (Unit {0}) AllocError) (nodes : List Node) (C D : List Condition) (before after : List DeclaredCondition) → C ≡ D → OnOk r (Adds nodes C before after) → OnOk r (Adds nodes D before after)
owed_as (Ok u) nodes C D before after e h = adds_as nodes C D before after e h
owed_as (Err x) nodes C D before after e h = tt

pub narrowed : (source target : Ty) (at : Pos) (a : Term) → narrows source target ≡ true → narrowing source target at a ≡ in_range types.Nat at a
narrowed types.Int types.Nat at a e = refl
narrowed types.Int (types.Newtype id) at a e = cc
narrowed types.Int types.Int at a e = cc
narrowed types.Int types.Bool at a e = cc
narrowed types.Int types.Char at a e = cc
narrowed (types.Newtype id) target at a e = cc
narrowed types.Nat target at a e = cc
narrowed types.Bool target at a e = cc
narrowed types.Char target at a e = cc

pub not_narrowed : (source target : Ty) (at : Pos) (a : Term) → narrows source target ≡ false → narrowing source target at a ≡ []
not_narrowed types.Int types.Nat at a e = cc
not_narrowed types.Int (types.Newtype id) at a e = refl
not_narrowed types.Int types.Int at a e = refl
not_narrowed types.Int types.Bool at a e = refl
not_narrowed types.Int types.Char at a e = refl
not_narrowed (types.Newtype id) target at a e = refl
not_narrowed types.Nat target at a e = refl
not_narrowed types.Bool target at a e = refl
not_narrowed types.Char target at a e = refl

pub narrowed_number : (source target : Ty) → narrows source target ≡ true → sort_of_type source ≡ Numbers
narrowed_number types.Int target e = refl
narrowed_number types.Nat target e = refl
narrowed_number (types.Newtype id) target e = refl
narrowed_number types.Bool target e = cc
narrowed_number types.Char target e = cc
