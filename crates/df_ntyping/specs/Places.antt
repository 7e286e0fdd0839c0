-- Where an expression stands in the text: at its sign, which is the last of those that hold to the left, and the first of
-- implications and of a chain; else at its first token. Each expression of the grammar stands somewhere.
use Rattle.std.specs.Prelude.{List, [], ◌∷◌, Option, Some, None}
use Rattle.df_base.specs.declared.pos.Pos.{Pos}
use Rattle.df_ntree.specs.declared.expr.Group.{Group}
use Rattle.df_ntree.specs.declared.expr.Group.TheVariants as groups
use Rattle.df_ntree.specs.Expr.{Expr, Number, Character, Truth, Name, Parentheses, Call, Unary, Cast, Operations, Leading, Members, end, more}
use Rattle.df_ntree.specs.ExprSpelling.{first_group}

abbrev pub first_sign : Members → Option Pos
first_sign end = None
first_sign (more operator pos operand rest) = Some pos

abbrev pub last_sign : Option Pos → Members → Option Pos
last_sign before end = before
last_sign before (more operator pos operand rest) = last_sign (Some pos) rest

-- the first token
abbrev pub beginning_of : Expr → Option Pos
beginning_of (Number literal) = Some literal.pos
beginning_of (Character code pos) = Some pos
beginning_of (Truth value pos) = Some pos
beginning_of (Name ident) = Some ident.pos
beginning_of (Parentheses pos inner) = Some pos
beginning_of (Call callee arguments) = beginning_of callee
beginning_of (Unary operator pos operand) = Some pos
beginning_of (Cast operand all) = beginning_of operand
beginning_of (Operations first rest) = beginning_of first
beginning_of (Leading operations) = first_sign operations

abbrev pub pos_of_run : Option Group → Members → Option Pos
pos_of_run (Some groups.Implication) members = first_sign members
pos_of_run (Some groups.Comparison) members = first_sign members
pos_of_run group members = last_sign None members

abbrev pub pos_of : Expr → Option Pos
pos_of (Operations first rest) = pos_of_run (first_group rest) rest
pos_of (Leading operations) = last_sign None operations
pos_of e = beginning_of e

-- where the first of expressions begins
abbrev pub beginning_of_first : List Expr → Option Pos
beginning_of_first [] = None
beginning_of_first (e ∷ others) = beginning_of e
