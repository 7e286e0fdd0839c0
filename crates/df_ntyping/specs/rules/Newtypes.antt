-- S11: a newtype is `newtype N = x: int | low < x < high`, each sign `<` or `<=`, each end a literal, and its range holds
-- its default, which is the witness, a literal, or 0.
use Rattle.std.specs.Prelude.{ℕ, ℤ, pos, ◌+ℤ◌, ◌-ℤ◌, int_le, Bool, true, false, not, ◌==◌, ◌&&◌, Option, Some, None, is_some, if◌then◌else◌}
use Rattle.df_ntree.specs.declared.expr.BinaryOperator.{BinaryOperator}
use Rattle.df_ntree.specs.declared.expr.BinaryOperator.TheVariants as binary
use Rattle.df_ntree.specs.Expr.{Expr, Number, Name, Operations, end, more}
use Rattle.df_ntree.specs.File.{NewtypeDeclaration}
use Rattle.df_ntyping.specs.Environment.{Environment}
use Rattle.df_ntyping.specs.ExprTypes.{value_of}
use Rattle.df_ntyping.specs.Node as nodes
use Rattle.df_ntyping.specs.Node.{Node}

abbrev pub is_bound : BinaryOperator → Bool
is_bound binary.Less = true
is_bound binary.AtMost = true
is_bound operator = false

-- the least number above the low end, and the greatest below the high end
abbrev pub lowest : BinaryOperator → ℤ → ℤ
lowest binary.Less n = n +ℤ pos 1
lowest operator n = n

abbrev pub highest : BinaryOperator → ℤ → ℤ
highest binary.Less n = n -ℤ pos 1
highest operator n = n

pub record Ends : Type 0 where
  pub low : ℤ
  pub high : ℤ

abbrev pub ends_of : ℕ → Expr → Option Ends
ends_of variable (Operations (Number low) (more after_low at (Name subject) (more before_high other (Number high) end))) =
    if is_bound after_low && is_bound before_high && subject.name == variable
    then Some (record { low = lowest after_low (value_of low); high = highest before_high (value_of high) })
    else None
ends_of variable e = None

abbrev pub default_of : Option Expr → Option ℤ
default_of None = Some (pos 0)
default_of (Some (Number literal)) = Some (value_of literal)
default_of (Some e) = None

pub record Bounds : Type 0 where
  pub low : ℤ
  pub high : ℤ
  pub default : ℤ

-- the default lies between the ends
abbrev pub inside : Option Ends → Option ℤ → Option Bounds
inside (Some ends) (Some default) =
    if int_le ends.low default && int_le default ends.high then Some (record { low = ends.low; high = ends.high; default = default }) else None
inside ends default = None

abbrev pub bounds_of : NewtypeDeclaration → Option Bounds
bounds_of newtype = inside (ends_of newtype.variable.name newtype.predicate) (default_of newtype.witness)

abbrev pub breaks_range : Environment → Node → Bool
breaks_range env (nodes.Newtype newtype) = not (is_some (bounds_of newtype))
breaks_range env node = false
