-- Types as they are written and as operands meet: which fit others, where `nat` counts as `int`, and which way a chain goes.
use Rattle.std.specs.Prelude.{Bool, true, false, ◌&&◌, ◌||◌, Option, Some, None, if◌then◌else◌}
use Rattle.df_lang.specs.declared.ty.Ty.{Ty}
use Rattle.df_lang.specs.declared.ty.Ty.TheVariants as types
use Rattle.df_lang.specs.Newtype.{same_type}
use Rattle.df_ntree.specs.declared.expr.BasicType.{BasicType}
use Rattle.df_ntree.specs.declared.expr.BasicType.TheVariants as basics
use Rattle.df_ntree.specs.declared.expr.BinaryOperator.{BinaryOperator}
use Rattle.df_ntree.specs.declared.expr.BinaryOperator.TheVariants as binary
use Rattle.df_ntree.specs.Expr.{Members, end, more}

-- A type that is not known is none: its part breaks a rule, and no rule that asks for the type is broken by it.

-- the type that is a word
abbrev pub basic_type : BasicType → Ty
basic_type basics.Int = types.Int
basic_type basics.Nat = types.Nat
basic_type basics.Bool = types.Bool
basic_type basics.Char = types.Char

-- the newtypes, `int` and `nat`
abbrev pub is_integer : Ty → Bool
is_integer types.Bool = false
is_integer types.Char = false
is_integer ty = true

-- where operands meet, `nat` counts as `int`
abbrev pub counted : Ty → Ty
counted types.Nat = types.Int
counted ty = ty

-- values of the type are values of the other
abbrev pub fits : Ty → Ty → Bool
fits types.Nat types.Int = true
fits source target = same_type source target

-- values of the type are taken as values of the other where they are ones
abbrev pub narrows : Ty → Ty → Bool
narrows types.Int types.Nat = true
narrows source target = false

abbrev pub fits_or_narrows : Ty → Ty → Bool
fits_or_narrows source target = fits source target || narrows source target

-- `as` goes between integer types, and between them and `char`
abbrev pub casts : Ty → Ty → Bool
casts types.Char target = is_integer target
casts source types.Char = is_integer source
casts source target = is_integer source && is_integer target

-- two operands of one integer type
abbrev pub are_one_integer : Ty → Ty → Bool
are_one_integer left right = is_integer left && is_integer right && same_type (counted left) (counted right)

-- a test that only two known types can fail
abbrev pub if_known : (Ty → Ty → Bool) → Option Ty → Option Ty → Bool
if_known test (Some one) (Some other) = test one other
if_known test one other = true

-- a test that only a known type can fail
abbrev pub if_type_known : (Ty → Bool) → Option Ty → Bool
if_type_known test (Some ty) = test ty
if_type_known test None = true

-- the type of a sum, a difference, a product, a quotient or a remainder of operands of these types
abbrev pub arithmetic : Option Ty → Option Ty → Option Ty
arithmetic (Some left) (Some right) = if are_one_integer left right then Some (counted left) else None
arithmetic left right = None

-- a literal number takes the integer type that is expected, else it is an `int`
abbrev pub literal_type : Option Ty → Ty
literal_type (Some ty) = if is_integer ty then ty else types.Int
literal_type None = types.Int

abbrev pub is_order : BinaryOperator → Bool
is_order binary.Less = true
is_order binary.AtMost = true
is_order binary.Greater = true
is_order binary.AtLeast = true
is_order operator = false

-- ---- directions

abbrev pub rises : BinaryOperator → Bool
rises binary.Less = true
rises binary.AtMost = true
rises binary.Equal = true
rises operator = false

abbrev pub falls : BinaryOperator → Bool
falls binary.Greater = true
falls binary.AtLeast = true
falls binary.Equal = true
falls operator = false

abbrev pub all_of : (BinaryOperator → Bool) → Members → Bool
all_of test end = true
all_of test (more operator pos operand rest) = test operator && all_of test rest

abbrev pub is_single : Members → Bool
is_single (more operator pos operand end) = true
is_single members = false

abbrev pub keeps_direction : Members → Bool
keeps_direction members = is_single members || all_of rises members || all_of falls members
