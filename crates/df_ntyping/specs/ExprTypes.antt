-- The types of expressions. An operand that is made of literals alone is open: it takes the type of the operand beside
-- it, or that which is expected. Others have a type of their own, if it is known.
use Rattle.std.specs.Prelude.{ℤ, pos, neg_ℤ, Bool, true, false, ◌&&◌, List, [], ◌∷◌, ◌++◌, Option, Some, None, option_map, if◌then◌else◌}
use Rattle.df_lang.specs.declared.ty.Ty.{Ty}
use Rattle.df_lang.specs.declared.ty.Ty.TheVariants as types
use Rattle.df_ntree.specs.declared.tree.Literal.{Literal}
use Rattle.df_ntree.specs.declared.expr.UnaryOperator.{UnaryOperator}
use Rattle.df_ntree.specs.declared.expr.UnaryOperator.TheVariants as unary
use Rattle.df_ntree.specs.declared.expr.Group.{Group}
use Rattle.df_ntree.specs.declared.expr.Group.TheVariants as groups
use Rattle.df_ntree.specs.declared.expr.TreeType.{TreeType}
use Rattle.df_ntree.specs.Expr.{Expr, Number, Character, Truth, Name, Parentheses, Call, Unary, Cast, Operations, Leading, Members, end, more}
use Rattle.df_ntree.specs.ExprSpelling.{first_group}
use Rattle.df_ntyping.specs.Types.{counted, arithmetic, literal_type}
use Rattle.df_ntyping.specs.Table.{Signature, type_of}
use Rattle.df_ntyping.specs.Environment.{Environment, local_type}
use Rattle.df_ntyping.specs.Meaning.{Meaning, TheLocal, meaning_of, called_signature}

-- a minus directly before a literal belongs to it
abbrev pub value_of : Literal → ℤ
value_of literal = if literal.negative then neg_ℤ (pos literal.magnitude) else pos literal.magnitude

-- ---- Open expressions: numbers, parentheses, minus, sums and products of such.

abbrev pub is_arithmetic : Option Group → Bool
is_arithmetic (Some groups.Sum) = true
is_arithmetic (Some groups.Product) = true
is_arithmetic group = false

abbrev pub is_minus : UnaryOperator → Bool
is_minus unary.Negate = true
is_minus unary.Not = false

abbrev mutual
  pub is_open : Expr → Bool
  is_open (Number literal) = true
  is_open (Character code at) = false
  is_open (Truth value at) = false
  is_open (Name ident) = false
  is_open (Parentheses at inner) = is_open inner
  is_open (Call callee arguments) = false
  is_open (Unary operator at operand) = is_minus operator && is_open operand
  is_open (Cast operand all) = false
  is_open (Operations first rest) = is_arithmetic (first_group rest) && is_open first && are_open rest
  is_open (Leading operations) = false

  pub are_open : Members → Bool
  are_open end = true
  are_open (more operator at operand rest) = is_open operand && are_open rest

-- a literal right at a place takes its type; what operators make of literals is of no narrower type than `int`
abbrev pub open_type : Option Ty → Expr → Ty
open_type expected (Number literal) = literal_type expected
open_type expected (Parentheses at inner) = open_type expected inner
open_type expected e = counted (literal_type expected)

-- ---- Own types.

-- a local has a type; a method's name has none
abbrev pub type_of_meaning : Environment → Option Meaning → Option Ty
type_of_meaning env (Some (TheLocal local)) = local_type env local.number
type_of_meaning env meaning = None

-- a call of a method with one result has its type, whatever is broken inside
abbrev pub type_of_call : Option Signature → Option Ty
type_of_call None = None
type_of_call (Some signature) = only_type signature.results where
  only_type : List (Option Ty) → Option Ty
  only_type (ty ∷ []) = ty
  only_type results = None

-- operands of these types, one after another, beside what stands on their left
abbrev pub arithmetic_all : Option Ty → List (Option Ty) → Option Ty
arithmetic_all left [] = left
arithmetic_all left (right ∷ others) = arithmetic_all (arithmetic left right) others

-- of the operands that are not open
abbrev pub common_type : List (Option Ty) → Option Ty
common_type [] = None
common_type (first ∷ others) = arithmetic_all (arithmetic first first) others

-- the type behind a row of `as`
abbrev pub last_type : Environment → List TreeType → Option Ty
last_type env [] = None
last_type env (ty ∷ []) = type_of env.table.newtypes ty
last_type env (ty ∷ others) = last_type env others

abbrev mutual
  -- of an expression that is not open
  pub own_type : Environment → Expr → Option Ty
  own_type env (Number literal) = None
  own_type env (Character code at) = Some types.Char
  own_type env (Truth value at) = Some types.Bool
  own_type env (Name ident) = type_of_meaning env (meaning_of env ident.name)
  own_type env (Parentheses at inner) = own_type env inner
  own_type env (Call callee arguments) = type_of_call (called_signature env callee)
  own_type env (Unary unary.Negate at operand) = let own = own_type env operand in arithmetic own own
  own_type env (Unary unary.Not at operand) = Some types.Bool
  own_type env (Cast operand all) = last_type env all
  own_type env (Operations first rest) =
      if is_arithmetic (first_group rest) then common_type ((if is_open first then [] else own_type env first ∷ []) ++ own_types env rest) else Some types.Bool
  own_type env (Leading operations) = Some types.Bool

  -- of those that are not open
  pub own_types : Environment → Members → List (Option Ty)
  own_types env end = []
  own_types env (more operator at operand rest) = (if is_open operand then [] else own_type env operand ∷ []) ++ own_types env rest

-- the type of an expression where a type is expected, or none
abbrev pub type_in : Environment → Option Ty → Expr → Option Ty
type_in env expected e = if is_open e then Some (open_type expected e) else own_type env e

-- ---- Operands of a run. An open one takes the type of the nearest on its left that is not open, else of the first on its
-- right, else that which is expected; `nat` counts as `int`.

abbrev pub counted_of : Option Ty → Option Ty
counted_of ty = option_map counted ty

abbrev pub first_or : Option Ty → List (Option Ty) → Option Ty
first_or otherwise [] = otherwise
first_or otherwise (ty ∷ others) = counted_of ty

-- what the first operand of a run is expected to be
abbrev pub wanted_first : Environment → Option Ty → Expr → Members → Option Ty
wanted_first env expected first rest = if is_open first then first_or (counted_of expected) (own_types env rest) else counted_of (own_type env first)

-- what the operand behind this one is expected to be
abbrev pub wanted_behind : Environment → Option Ty → Expr → Option Ty
wanted_behind env wanted operand = if is_open operand then wanted else counted_of (own_type env operand)

-- a sum or a product passes on what is expected of it
abbrev pub expected_inside : Option Group → Option Ty → Option Ty
expected_inside group expected = if is_arithmetic group then expected else None
