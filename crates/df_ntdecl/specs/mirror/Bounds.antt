-- The bounds of a newtype by numbers of 128 bits: what private contracts cite.
use Rattle.std.specs.Prelude.{ℕ, ℤ, pos, neg_ℤ, ◌^◌, ◌+ℤ◌, ◌-ℤ◌, int_le, int_lt, nat_lt, Bool, false, ◌==◌, ◌&&◌, Option, Some, None, if◌then◌else◌}
use Rattle.std.specs.Option.{option_and_then}
use Rattle.df_lang.specs.declared.interval.Interval.{Interval}
use Rattle.df_ntree.specs.declared.tree.Literal.{Literal}
use Rattle.df_ntree.specs.declared.expr.BinaryOperator.{BinaryOperator}
use Rattle.df_ntree.specs.declared.expr.BinaryOperator.TheVariants as binary
use Rattle.df_ntree.specs.Expr.{Expr, Number, Name, Operations, Operation, Members, end, more}
use Rattle.df_ntree.specs.File.{NewtypeDeclaration}
use Rattle.df_ntyping.specs.ExprTypes.{value_of}
use Rattle.df_ntyping.specs.rules.Newtypes.{Bounds}

-- a number of a token is below the limit
abbrev pub is_limited : Literal → Bool
is_limited literal = nat_lt literal.magnitude (2 ^ 127)

abbrev pub literal_value : Literal → Option ℤ
literal_value literal = if is_limited literal then Some (value_of literal) else None

abbrev pub number_of : Expr → Option ℤ
number_of (Number literal) = literal_value literal
number_of e = None

abbrev pub is_name : ℕ → Expr → Bool
is_name name (Name ident) = ident.name == name
is_name name e = false

-- the number, where 128 bits hold it
abbrev pub fitting : ℤ → Option ℤ
fitting n = if int_le (neg_ℤ (pos (2 ^ 127))) n && int_lt n (pos (2 ^ 127)) then Some n else None

abbrev pub low_end : BinaryOperator → ℤ → Option ℤ
low_end binary.Less n = fitting (n +ℤ pos 1)
low_end binary.AtMost n = Some n
low_end operator n = None

abbrev pub high_end : BinaryOperator → ℤ → Option ℤ
high_end binary.Less n = fitting (n -ℤ pos 1)
high_end binary.AtMost n = Some n
high_end operator n = None

unfoldable pub ends_in : ℕ → Expr → Operation → Operation → Option (ℤ × ℤ)
ends_in variable first low high =
    if is_name variable low.operand
    then option_and_then (λ (n : ℤ). option_and_then (λ (a : ℤ). option_and_then (λ (m : ℤ). option_and_then (λ (b : ℤ). Some (a, b)) (high_end high.operator m)) (number_of high.operand)) (low_end low.operator n)) (number_of first)
    else None

abbrev pub ends_of_run : ℕ → Expr → Members → Option (ℤ × ℤ)
ends_of_run variable first (more after_low at low (more before_high other high end)) =
    ends_in variable first (record { operator = after_low; pos = at; operand = low }) (record { operator = before_high; pos = other; operand = high })
ends_of_run variable first members = None

abbrev pub ends_of : ℕ → Expr → Option (ℤ × ℤ)
ends_of variable (Operations first rest) = ends_of_run variable first rest
ends_of variable e = None

abbrev pub default_of : Option Expr → Option ℤ
default_of None = Some (pos 0)
default_of (Some e) = number_of e

abbrev pub inside : ℤ × ℤ → ℤ → Option Bounds
inside ends default = if int_le ends.0 default && int_le default ends.1 then Some (record { low = ends.0; high = ends.1; default = default }) else None

abbrev pub bounds_from : Interval × ℤ → Bounds
bounds_from b = record { low = b.0.low; high = b.0.high; default = b.1 }

unfoldable pub bounds_in : NewtypeDeclaration → Option Bounds
bounds_in newtype = option_and_then (λ (ends : ℤ × ℤ). option_and_then (λ (default : ℤ). inside ends default) (default_of newtype.witness)) (ends_of newtype.variable.name newtype.predicate)
