-- Expressions made of literals alone, typed as is expected: what private contracts cite.
use Rattle.std.specs.Prelude.{ℤ, pos, ◌^◌, nat_lt, List, [], ◌∷◌, Option, Some, if◌then◌else◌}
use Rattle.df_lang.specs.declared.ty.Ty.{Ty}
use Rattle.df_lang.specs.Expr as typed
use Rattle.df_ntree.specs.declared.tree.Literal.{Literal}
use Rattle.df_ntree.specs.declared.expr.Group.{Group}
use Rattle.df_ntree.specs.declared.expr.Group.TheVariants as groups
use Rattle.df_ntree.specs.Expr.{Expr, Number, Parentheses, Unary, Operations, Members, end, more}
use Rattle.df_ntree.specs.ExprSpelling.{first_group}
use Rattle.df_ntyping.specs.Types.{counted}
use Rattle.df_ntyping.specs.ExprTypes.{value_of}
use Rattle.df_ntyping.specs.Places.{beginning_of}
use Rattle.df_ntyping.specs.ExprElaboration.{Part, addends_of, factors_of}
use Rattle.df_ntyping.specs.mirror.Parts.{Typed, or_start}

-- no token is a number above the limit
abbrev pub limited_value : Literal → ℤ
limited_value literal = if nat_lt literal.magnitude (2 ^ 127) then value_of literal else pos 0

abbrev pub sum_or_product : Option Group → Ty → typed.Expr → List Part → typed.Expr
sum_or_product (Some groups.Product) ty first parts = typed.Product ty first (factors_of parts)
sum_or_product group ty first parts = typed.Sum ty first (addends_of parts)

abbrev mutual
  -- each literal of the type, and each operation of what it counts as
  pub opened_by : (Literal → ℤ) → Ty → Expr → Typed
  opened_by value ty (Number literal) = record { ty = ty; expr = typed.Number ty (value literal) literal.pos }
  opened_by value ty (Parentheses at inner) = opened_by value ty inner
  opened_by value ty (Unary operator at operand) = record { ty = counted ty; expr = typed.Negate (counted ty) at (opened_by value (counted ty) operand).expr }
  opened_by value ty (Operations first rest) =
      record { ty = counted ty; expr = sum_or_product (first_group rest) (counted ty) (opened_by value (counted ty) first).expr (parts_by value (counted ty) rest) }
  -- no other is made of literals
  opened_by value ty e = record { ty = ty; expr = typed.Number ty (pos 0) (or_start (beginning_of e)) }

  pub parts_by : (Literal → ℤ) → Ty → Members → List Part
  parts_by value ty end = []
  parts_by value ty (more operator at operand rest) = record { operator = operator; pos = at; operand = (opened_by value ty operand).expr } ∷ parts_by value ty rest

abbrev pub opened : Ty → Expr → Typed
opened = opened_by limited_value

abbrev pub opened_parts : Ty → Members → List Part
opened_parts = parts_by limited_value
