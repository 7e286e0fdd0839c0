-- The grammar of expressions, computed on small ones.
use Rattle.std.proofs.Common.{◌≡◌, ℕ, true, false, [], ◌∷◌, inl, inr, refl, sym, ◌∙◌, arith}
use Rattle.df_base.specs.declared.pos.Pos.{Pos}
use Rattle.df_tok.specs.declared.sign.Sign.TheVariants as signs
use Rattle.df_tok.specs.declared.token.Kind.{Kind}
use Rattle.df_tok.specs.declared.token.Kind.TheVariants as kinds
use Rattle.df_tok.specs.Token.{Token}
use Rattle.df_ntree.specs.declared.expr.BinaryOperator.TheVariants as binary
use Rattle.df_ntree.specs.declared.expr.UnaryOperator.TheVariants as unary
use Rattle.df_ntree.specs.declared.expr.BasicType.TheVariants as basics
use Rattle.df_ntree.specs.declared.expr.TreeType.TheVariants as types
use Rattle.df_ntree.specs.declared.expr.Group.TheVariants as groups
use Rattle.df_ntree.specs.Spelling.{Begins}
use Rattle.df_ntree.specs.Expr.{Expr, Number, Name, Call, Unary, Cast, Operations, Leading, end, more, no_more, argument}
use Rattle.df_ntree.specs.ExprSpelling.{spell, IsExpr, height, WithOperator, WithType, WithArguments, IsBarred}

at : ℕ → Pos
at col = record { line = 1; col = col }

name : ℕ → ℕ → Expr
name i col = Name (record { name = i; pos = at col })

number : ℕ → ℕ → Expr
number n col = Number (record { negative = false; magnitude = n; pos = at col })

negative : ℕ → ℕ → Expr
negative n col = Number (record { negative = true; magnitude = n; pos = at col })

token : Kind → ℕ → Token
token kind col = record { kind = kind; text = []; pos = at col }

-- `a - -5` is a difference
difference : Expr
difference = Operations (name 0 1) (more binary.Subtract (at 3) (negative 5 5) end)

difference_spelled : Begins (spell difference) (token (kinds.Name 0) 1 ∷ token (kinds.Sign signs.Minus) 3 ∷ token (kinds.Sign signs.Minus) 5 ∷ token (kinds.Number 5) 6 ∷ []) []
unfolding difference name negative token at
difference_spelled = ((refl, refl), ((refl, refl), ((refl, refl), ((refl, tt), refl))))

difference_is : IsExpr difference
unfolding difference name negative
difference_is = (groups.Sum, refl, tt, omega arith, (refl, tt, omega arith, tt))

difference_height : height difference ≡ 3
unfolding difference name negative
difference_height = refl

-- `a && b || c` is no row
mixed : IsExpr (Operations (name 0 1) (more binary.And (at 3) (name 1 6) (more binary.Or (at 8) (name 2 11) end))) → ⊥
mixed is = let e = is.4.0 ∙ sym is.4.3.0 in absurd cc

-- the minus of `-5` is no sign before an operand
joined : IsExpr (Unary unary.Negate (at 1) (number 5 2)) → ⊥
unfolding number
joined is = is.1.1 refl

-- `- -5` is a sign before a number
sign_before_number : IsExpr (Unary unary.Negate (at 1) (negative 5 3))
unfolding negative
sign_before_number = (tt, (omega arith, λ h. absurd cc))

-- `&& a` counts one more than `a`
leading_height : height (Leading (more binary.And (at 1) (name 0 4) end)) ≡ 2
unfolding name
leading_height = refl

-- `a && b` ends before `||`, and goes on with `==>` and with `+`
both : Expr
both = Operations (name 0 1) (more binary.And (at 3) (name 1 6) end)

both_bars_or : IsBarred (WithOperator binary.Or) both
unfolding both
both_bars_or = inl (refl, λ e. cc)

both_goes_on : (IsBarred (WithOperator binary.Implies) both → ⊥) × (IsBarred (WithOperator binary.And) both → ⊥) × (IsBarred (WithOperator binary.Add) both → ⊥)
unfolding both name
both_goes_on = (λ h. elim h [ inl k ↦ absurd cc | inr k ↦ k ], λ h. elim h [ inl k ↦ k.1 refl | inr k ↦ k ], λ h. elim h [ inl k ↦ absurd cc | inr k ↦ k ])

-- so does `c ==> a && b`, which ends before `<==` too
premise : Expr
premise = Operations (name 2 1) (more binary.Implies (at 3) both end)

premise_bars : IsBarred (WithOperator binary.Or) premise × IsBarred (WithOperator binary.Explies) premise
unfolding premise both
premise_bars = (inr (inl (refl, λ e. cc)), inl (refl, λ e. cc))

-- `a % b + c` is a sum
remainder : Expr
remainder = Operations (name 0 1) (more binary.Modulo (at 3) (name 1 5) end)

sum_of_remainder : IsExpr (Operations remainder (more binary.Add (at 7) (name 2 9) end))
unfolding remainder name
sum_of_remainder = (groups.Sum, refl, (groups.Product, refl, tt, omega arith, (refl, tt, omega arith, tt)), omega arith, (refl, tt, omega arith, tt))

-- and no row of `%` and `+`
one_row : IsExpr (Operations (name 0 1) (more binary.Modulo (at 3) (name 1 5) (more binary.Add (at 7) (name 2 9) end))) → ⊥
one_row is = let e = is.4.0 ∙ sym is.4.3.0 in cc

-- `a(5)(b, c)` is a call of a call, and three high
call : Expr
call = Call (Call (name 0 1) (argument (number 5 3) no_more)) (argument (name 1 6) (argument (name 2 9) no_more))

call_spelled : Begins
    (spell call)
    (token (kinds.Name 0) 1 ∷ token (kinds.Sign signs.OpenParenthesis) 2 ∷ token (kinds.Number 5) 3 ∷ token (kinds.Sign signs.CloseParenthesis) 4 ∷ token (kinds.Sign signs.OpenParenthesis) 5
    ∷ token (kinds.Name 1) 6 ∷ token (kinds.Sign signs.Comma) 7 ∷ token (kinds.Name 2) 9 ∷ token (kinds.Sign signs.CloseParenthesis) 10 ∷ [])
    []
unfolding call name number token at
call_spelled = ((refl, refl), ((refl, tt), ((refl, refl), ((refl, tt), ((refl, tt), ((refl, refl), ((refl, tt), ((refl, refl), ((refl, tt), refl)))))))))

call_is : IsExpr call
unfolding call name number
call_is = ((tt, omega arith, (tt, tt)), omega arith, (tt, (tt, tt)))

call_height : height call ≡ 3
unfolding call name number
call_height = refl

-- `-5` takes no arguments, but a minus stands before `5()`
negative_call : IsExpr (Call (negative 5 1) no_more) → ⊥
unfolding negative
negative_call is = let l = is.1 in omega arith

minus_call : IsExpr (Unary unary.Negate (at 1) (Call (number 5 2) no_more))
unfolding number
minus_call = ((tt, omega arith, tt), (omega arith, λ h. h))

-- `a as int` takes no arguments, and goes on with `as` and with `*`
cast : Expr
cast = Cast (name 0 1) (types.Basic basics.Int (at 6) ∷ [])

cast_bars : IsBarred WithArguments cast × (IsBarred WithType cast → ⊥) × (IsBarred (WithOperator binary.Multiply) cast → ⊥)
unfolding cast
cast_bars = (refl, λ h. cc, λ h. cc)

-- no truth is cast to
no_bool : IsExpr (Cast (name 0 1) (types.Basic basics.Bool (at 6) ∷ [])) → ⊥
unfolding name
no_bool is = let h = is.2.1.0 in cc
