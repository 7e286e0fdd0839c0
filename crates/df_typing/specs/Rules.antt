-- The rules, each by itself: what is asked of types and names, and whether it holds.
use Rattle.std.specs.Prelude.{ℕ, ◌==◌, Bool, true, false, ◌||◌, List, [], ◌∷◌, Option}
use Rattle.std.specs.List.{list_all}
use Rattle.df_tok.specs.declared.sign.Sign.{Sign}
use Rattle.df_tok.specs.declared.sign.Sign.TheVariants as signs
use Rattle.df_types.specs.Types.{casts, converts}
use Rattle.df_typing.specs.Types.{Ty, Boolean, same_type, one_fits, are_alike, are_one_number, are_ordered, is_printed, if_known, if_both}
pub use Rattle.df_typing.specs.declared.rule.Rule.{Rule}
pub use Rattle.df_typing.specs.declared.rule.Operator.{Operator}
use Rattle.df_typing.specs.declared.rule.Operator.TheVariants as operators
use Rattle.df_typing.specs.declared.rule.Operation.TheVariants as operations
use Rattle.df_types.specs.declared.op.Comparison.TheVariants as comparisons
pub use Rattle.df_typing.specs.declared.rule.Rule.TheVariants.{Unknown, Twice, Typing, Uninferred, Range}

pub data Ask : Type 0 where
  Known : Bool → Ask
  New : Bool → Ask
  InRange : Bool → Ask
  Inferred : Bool → Ask
  Fits : (value place : Option Ty) → Ask
  Operands : (left right : Option Ty) → Ask
  Ordered : (left right : Option Ty) → Ask
  Equated : (left right : Option Ty) → Ask
  Directed : Bool → Ask
  Truths : List (Option Ty) → Ask
  Counted : (arguments parameters : ℕ) → Ask
  Called : Bool → Ask
  Alike : (one other : Option Ty) → Ask
  Cast : (source target : Option Ty) → Ask
  Assigned : Bool → Ask
  Returned : Bool → Ask
  Leaves : Bool → Ask
  Belongs : Bool → Ask
  Measured : Bool → Ask
  Mixed : Bool → Ask
  Printed : Option Ty → Ask

abbrev pub rule_of : Ask → Rule
rule_of (Known is) = Unknown
rule_of (New is) = Twice
rule_of (InRange is) = Range
rule_of (Inferred is) = Uninferred
rule_of (Fits value place) = Typing 1
rule_of (Operands left right) = Typing 3
rule_of (Ordered left right) = Typing 4
rule_of (Equated left right) = Typing 5
rule_of (Directed is) = Typing 6
rule_of (Truths types) = Typing 7
rule_of (Counted arguments parameters) = Typing 14
rule_of (Called is) = Typing 15
rule_of (Alike one other) = Typing 16
rule_of (Cast source target) = Typing 18
rule_of (Assigned is) = Typing 22
rule_of (Returned is) = Typing 23
rule_of (Leaves is) = Typing 24
rule_of (Belongs is) = Typing 25
rule_of (Measured is) = Typing 25
rule_of (Mixed is) = Typing 26
rule_of (Printed ty) = Typing 27

abbrev pub holds : Ask → Bool
-- a name has a meaning where it is used
holds (Known is) = is
-- a name is declared once in its scope
holds (New is) = is
-- a newtype is of its form, and its range holds its default
holds (InRange is) = is
-- something fixes the type before it is asked for
holds (Inferred is) = is
-- what is assigned, passed, returned or given fits or narrows to the type of its place
holds (Fits value place) = if_both converts value place
-- operands of arithmetic are of one integer type, where `nat` counts as `int`
holds (Operands left right) = if_both are_one_number left right
-- so are those of comparisons by order, or they are characters
holds (Ordered left right) = if_both are_ordered left right
-- one side of an equality fits the other
holds (Equated left right) = if_both one_fits left right
-- a chain has only `<`, `<=` and `==`, or only `>`, `>=` and `==`; `!=` stands alone
holds (Directed is) = is
-- operands of logic, guards, conditions and contracts are truths
holds (Truths types) = list_all (if_known (same_type Boolean)) types
-- arguments match in number
holds (Counted arguments parameters) = arguments == parameters
-- a function stands in expressions, a method is a whole right side or statement, and so is a lemma
holds (Called is) = is
-- branches are of one type, where `nat` counts as `int`
holds (Alike one other) = if_both are_alike one other
-- `as` goes between integer types, and between them and `char`
holds (Cast source target) = if_both casts source target
-- what is assigned is a variable or a result, and there are as many left as right sides
holds (Assigned is) = is
-- `return` gives no values or all results
holds (Returned is) = is
-- `break` stands in a loop, and leaves no proof
holds (Leaves is) = is
-- declarations have `requires`, `ensures` and `decreases`, loops `invariant` and `decreases`
holds (Belongs is) = is
-- a loop has `decreases`, or a guard that has a measure by default
holds (Measured is) = is
-- steps by `==` mix with those by one other operator
holds (Mixed is) = is
-- what is printed is of a type that is
holds (Printed ty) = if_known is_printed ty

-- ---- operators

-- what each sign does with two operands
abbrev pub operator_of : Sign → Operator
operator_of signs.Iff = operators.Equivalence
operator_of signs.Implies = operators.Logic
operator_of signs.Explies = operators.Logic
operator_of signs.And = operators.Logic
operator_of signs.Or = operators.Logic
operator_of signs.Equal = operators.Equality comparisons.Equal
operator_of signs.NotEqual = operators.Equality comparisons.NotEqual
operator_of signs.AtMost = operators.Order comparisons.AtMost
operator_of signs.AtLeast = operators.Order comparisons.AtLeast
operator_of signs.Less = operators.Order comparisons.Less
operator_of signs.Greater = operators.Order comparisons.Greater
operator_of signs.NotIn = operators.Nothing
operator_of signs.Disjoint = operators.Nothing
operator_of signs.Not = operators.Nothing
operator_of signs.Plus = operators.Arithmetic operations.Add
operator_of signs.Minus = operators.Arithmetic operations.Subtract
operator_of signs.Times = operators.Arithmetic operations.Multiply
operator_of signs.Divide = operators.Arithmetic operations.Divide
operator_of signs.Modulo = operators.Arithmetic operations.Modulo
operator_of signs.Assign = operators.Nothing
operator_of signs.SuchThat = operators.Nothing
operator_of signs.DoubleColon = operators.Nothing
operator_of signs.Colon = operators.Nothing
operator_of signs.Semicolon = operators.Nothing
operator_of signs.Comma = operators.Nothing
operator_of signs.DotDot = operators.Nothing
operator_of signs.Dot = operators.Nothing
operator_of signs.OpenParenthesis = operators.Nothing
operator_of signs.CloseParenthesis = operators.Nothing
operator_of signs.OpenBracket = operators.Nothing
operator_of signs.CloseBracket = operators.Nothing
operator_of signs.OpenAttribute = operators.Nothing
operator_of signs.OpenBrace = operators.Nothing
operator_of signs.CloseBrace = operators.Nothing
operator_of signs.Bar = operators.Nothing
operator_of signs.Arrow = operators.Nothing
operator_of signs.Define = operators.Nothing

-- what is asked of them: what no sign does is of no operands
abbrev pub of_operator : Operator → Option Ty → Option Ty → Ask
of_operator (operators.Arithmetic operation) left right = Operands left right
of_operator (operators.Order comparison) left right = Ordered left right
of_operator (operators.Equality comparison) left right = Equated left right
of_operator operators.Equivalence left right = Truths (left ∷ right ∷ [])
of_operator operators.Logic left right = Truths (left ∷ right ∷ [])
of_operator operators.Nothing left right = Directed false

-- ---- directions

abbrev pub rises : Sign → Bool
rises signs.Less = true
rises signs.AtMost = true
rises signs.Equal = true
rises sign = false

abbrev pub falls : Sign → Bool
falls signs.Greater = true
falls signs.AtLeast = true
falls signs.Equal = true
falls sign = false

abbrev pub keep_direction : List Sign → Bool
keep_direction (one ∷ []) = true
keep_direction all = list_all rises all || list_all falls all
