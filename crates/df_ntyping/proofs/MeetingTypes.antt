-- Types as operands meet.
use Rattle.std.proofs.Common.{◌≡◌, Bool, true, false, ◌&&◌, ◌||◌, Option, Some, None, refl, sym, ap, ◌∙◌, subst}
use Rattle.std.proofs.lemmas.Bool.{and_parts}
use Rattle.df_lang.specs.declared.ty.Ty.{Ty}
use Rattle.df_lang.specs.declared.ty.Ty.TheVariants as types
use Rattle.df_lang.specs.Newtype.{same_type}
use Rattle.df_lang.specs.Expr as typed
use Rattle.df_ntree.specs.Expr.{Expr}
use Rattle.df_ntyping.specs.Types.{counted, is_integer, are_one_integer, fits, literal_type}
use Rattle.df_ntyping.specs.ExprTypes.{counted_of}
use Rattle.df_ntyping.specs.ExprElaboration.{Converts, ConvertsBy}
use Rattle.df_ntyping.specs.rules.Comparisons.{are_ordered}
use Rattle.df_ntyping.specs.rules.Truths.{is_truth}
use Rattle.df_ntyping.proofs.Complete.{same_self}
use Rattle.df_ntyping.proofs.WellTyped.{same_equal}
use Rattle.df_ntyping.proofs.Types.{counted_integer}
use Rattle.df_ntyping.specs.Rule as own
use Rattle.df_ntyping.specs.Rule.{TypingRule as Own}
use Rattle.df_ntyping.specs.mirror.Signs.{takes_by}

pub literal_integer : (expected : Option Ty) → is_integer (literal_type expected) ≡ true
literal_integer None = refl
literal_integer (Some (types.Newtype a)) = refl
literal_integer (Some types.Int) = refl
literal_integer (Some types.Nat) = refl
literal_integer (Some types.Bool) = refl
literal_integer (Some types.Char) = refl

pub literal_of_counted : (expected : Option Ty) → literal_type (counted_of expected) ≡ counted (literal_type expected)
literal_of_counted None = refl
literal_of_counted (Some (types.Newtype a)) = refl
literal_of_counted (Some types.Int) = refl
literal_of_counted (Some types.Nat) = refl
literal_of_counted (Some types.Bool) = refl
literal_of_counted (Some types.Char) = refl

-- an integer type is that of a literal where it is expected
pub literal_of_integer : (ty : Ty) → is_integer ty ≡ true → literal_type (Some ty) ≡ ty
literal_of_integer (types.Newtype a) p = refl
literal_of_integer types.Int p = refl
literal_of_integer types.Nat p = refl
literal_of_integer types.Bool p = absurd cc
literal_of_integer types.Char p = absurd cc

pub truth_equal : (ty : Ty) → is_truth ty ≡ true → ty ≡ types.Bool
truth_equal ty p = same_equal ty types.Bool p

pub integer_no_truth : (ty : Ty) → is_integer ty ≡ true → is_truth ty ≡ false
integer_no_truth (types.Newtype a) p = refl
integer_no_truth types.Int p = refl
integer_no_truth types.Nat p = refl
integer_no_truth types.Bool p = absurd cc
integer_no_truth types.Char p = absurd cc

pub one_integer_parts : (left right : Ty) → are_one_integer left right ≡ true → (is_integer left ≡ true) × (is_integer right ≡ true) × (counted left ≡ counted right)
one_integer_parts left right h =
    let outer = and_parts (is_integer left && is_integer right) (same_type (counted left) (counted right)) h in
    let inner = and_parts (is_integer left) (is_integer right) outer.0 in
    (inner.0, inner.1, same_equal (counted left) (counted right) outer.1)

fits_same : (left right : Ty) → fits left right ≡ true → counted left ≡ counted right
fits_same types.Nat types.Int p = refl
fits_same types.Nat types.Nat p = refl
fits_same types.Nat (types.Newtype b) p = absurd cc
fits_same types.Nat types.Bool p = absurd cc
fits_same types.Nat types.Char p = absurd cc
fits_same (types.Newtype a) right p = ap counted (same_equal (types.Newtype a) right p)
fits_same types.Int right p = ap counted (same_equal types.Int right p)
fits_same types.Bool right p = ap counted (same_equal types.Bool right p)
fits_same types.Char right p = ap counted (same_equal types.Char right p)

either_fits : (left right : Ty) (b : Bool) → fits left right ≡ b → (b || fits right left) ≡ true → counted left ≡ counted right
either_fits left right true p h = fits_same left right p
either_fits left right false p h = sym (fits_same right left h)

ordered_same : (left right : Ty) → are_ordered left right ≡ true → counted left ≡ counted right
ordered_same types.Char types.Char p = refl
ordered_same types.Char (types.Newtype b) p = (one_integer_parts types.Char (types.Newtype b) p).2
ordered_same types.Char types.Int p = (one_integer_parts types.Char types.Int p).2
ordered_same types.Char types.Nat p = (one_integer_parts types.Char types.Nat p).2
ordered_same types.Char types.Bool p = (one_integer_parts types.Char types.Bool p).2
ordered_same (types.Newtype a) right p = (one_integer_parts (types.Newtype a) right p).2
ordered_same types.Int right p = (one_integer_parts types.Int right p).2
ordered_same types.Nat right p = (one_integer_parts types.Nat right p).2
ordered_same types.Bool right p = (one_integer_parts types.Bool right p).2

truths_same : (left right : Ty) → (is_truth left && is_truth right) ≡ true → counted left ≡ counted right
truths_same left right h =
    let parts = and_parts (is_truth left) (is_truth right) h in
    ap counted (truth_equal left parts.0 ∙ sym (truth_equal right parts.1))

-- what a sign takes counts as one type
pub takes_same : (rule : Own) (left right : Ty) → takes_by rule left right ≡ true → counted left ≡ counted right
takes_same own.Equality left right h = either_fits left right (fits left right) refl h
takes_same own.Order left right h = ordered_same left right h
takes_same own.Arithmetic left right h = (one_integer_parts left right h).2
takes_same rule left right h = truths_same left right h

-- a type that counts as an integer is one
pub integer_so : (left right : Ty) → counted left ≡ counted right → is_integer right ≡ true → is_integer left ≡ true
integer_so left right p q = sym (counted_integer left) ∙ ap is_integer p ∙ counted_integer right ∙ q

-- beside a literal only integers stand
pub beside_literal : (rule : Own) (left : Ty) (expected : Option Ty) → takes_by rule left (literal_type expected) ≡ true → is_integer left ≡ true
beside_literal rule left expected h = integer_so left (literal_type expected) (takes_same rule left (literal_type expected) h) (literal_integer expected)

pub literal_beside : (rule : Own) (right : Ty) (expected : Option Ty) → takes_by rule (literal_type expected) right ≡ true → is_integer right ≡ true
literal_beside rule right expected h = integer_so right (literal_type expected) (sym (takes_same rule (literal_type expected) right h)) (literal_integer expected)

-- two literals of one type are taken where those of `int` are
pub literals_taken : (rule : Own) (ty : Ty) → is_integer ty ≡ true → counted ty ≡ ty → takes_by rule ty ty ≡ takes_by rule types.Int types.Int
literals_taken rule (types.Newtype a) p q = by_rule rule where
  by_rule : (rule : Own) → takes_by rule (types.Newtype a) (types.Newtype a) ≡ takes_by rule types.Int types.Int
  by_rule own.Equality = rw (same_self (types.Newtype a)) refl
  by_rule own.Order = same_self (types.Newtype a)
  by_rule own.Arithmetic = same_self (types.Newtype a)
  by_rule rule = refl
literals_taken rule types.Int p q = refl
literals_taken rule types.Nat p q = absurd cc
literals_taken rule types.Bool p q = absurd cc
literals_taken rule types.Char p q = absurd cc

pub converts_same : (source target : Ty) (e : Expr) (t : typed.Expr) → source ≡ target → Converts source target e t t
converts_same source target e t p = subst (λ (ty : Ty). Converts ty target e t t) (sym p) (by_same (same_type target target) (same_self target)) where
  by_same : (b : Bool) → b ≡ true → ConvertsBy b target target e t t
  by_same true q = refl
  by_same false q = absurd cc
