-- Types, and values of them.
use Rattle.std.proofs.Common.{◌≡◌, ℤ, Bool, true, refl, sym, ap, subst}
use Rattle.std.proofs.lemmas.Bool.{eqb-true}
use Rattle.df_lang.specs.declared.ty.Ty.{Ty}
use Rattle.df_lang.specs.declared.ty.Ty.TheVariants as types
use Rattle.df_lang.specs.Program.{Program}
use Rattle.df_lang.specs.Newtype.{same_type}
use Rattle.df_lang.specs.Typing.{is_integer, is_arithmetic}
use Rattle.df_meaning.specs.Value.{Value, Number, Truth}
use Rattle.df_meaning.specs.Types.{is_in, has_type}

pub same_type_equal : (a b : Ty) → same_type a b ≡ true → a ≡ b
same_type_equal (types.Newtype a) (types.Newtype b) e = ap types.Newtype (eqb-true a b e)
same_type_equal (types.Newtype a) types.Int e = cc
same_type_equal (types.Newtype a) types.Nat e = cc
same_type_equal (types.Newtype a) types.Bool e = cc
same_type_equal (types.Newtype a) types.Char e = cc
same_type_equal types.Int (types.Newtype b) e = cc
same_type_equal types.Int types.Int e = refl
same_type_equal types.Int types.Nat e = cc
same_type_equal types.Int types.Bool e = cc
same_type_equal types.Int types.Char e = cc
same_type_equal types.Nat (types.Newtype b) e = cc
same_type_equal types.Nat types.Int e = cc
same_type_equal types.Nat types.Nat e = refl
same_type_equal types.Nat types.Bool e = cc
same_type_equal types.Nat types.Char e = cc
same_type_equal types.Bool (types.Newtype b) e = cc
same_type_equal types.Bool types.Int e = cc
same_type_equal types.Bool types.Nat e = cc
same_type_equal types.Bool types.Bool e = refl
same_type_equal types.Bool types.Char e = cc
same_type_equal types.Char (types.Newtype b) e = cc
same_type_equal types.Char types.Int e = cc
same_type_equal types.Char types.Nat e = cc
same_type_equal types.Char types.Bool e = cc
same_type_equal types.Char types.Char e = refl

-- a truth is of each type that is the truths'
pub truth_typed : (p : Program) (ty : Ty) (b : Bool) → same_type ty types.Bool ≡ true → has_type p ty (Truth b) ≡ true
truth_typed p ty b e = subst (λ (t : Ty). has_type p t (Truth b) ≡ true) (sym (same_type_equal ty types.Bool e)) refl

-- a number that is in an integer type is of it
pub number_typed : (p : Program) (ty : Ty) (z : ℤ) → is_integer p ty ≡ true → is_in p ty z ≡ true → has_type p ty (Number z) ≡ true
number_typed p (types.Newtype id) z i e = e
number_typed p types.Int z i e = refl
number_typed p types.Nat z i e = e
number_typed p types.Bool z i e = cc
number_typed p types.Char z i e = cc

pub arithmetic_is_integer : (p : Program) (ty : Ty) → is_arithmetic p ty ≡ true → is_integer p ty ≡ true
arithmetic_is_integer p (types.Newtype id) e = e
arithmetic_is_integer p types.Int e = refl
arithmetic_is_integer p types.Nat e = cc
arithmetic_is_integer p types.Bool e = cc
arithmetic_is_integer p types.Char e = cc

pub same_typed : (p : Program) (a b : Ty) (v : Value) → same_type a b ≡ true → has_type p a v ≡ true → has_type p b v ≡ true
same_typed p a b v e h = subst (λ (t : Ty). has_type p t v ≡ true) (same_type_equal a b e) h
