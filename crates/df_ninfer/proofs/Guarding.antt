-- Operands of guards are integers where they may be, whatever is expected of them.
use Rattle.std.proofs.Common.{◌<◌, ◌≤◌, [], ◌∷◌, length, get_or, arith, ◌≡◌, Bool, true, false, ◌&&◌, List, Option, None, refl, sym, ap, ◌∙◌}
use Rattle.df_lang.specs.declared.ty.Ty.{Ty}
use Rattle.df_ntree.specs.Expr.{Expr, Operation, members_of}
use Rattle.df_ntyping.specs.Types.{is_integer, if_type_known, is_order}
use Rattle.df_ntyping.specs.Environment.{Environment}
use Rattle.df_ntyping.specs.ExprTypes.{wanted_first, wanted_behind, is_open, type_in}
use Rattle.df_ntyping.proofs.Silent.{open_integer}
use Rattle.df_ntyping.specs.rules.Loops.{compares_integers}
use Rattle.df_ninfer.specs.Guards.{may_be_integer, compares}

by_open : (env : Environment) (expected : Option Ty) (e : Expr) (b : Bool) → is_open e ≡ b → if_type_known is_integer (type_in env expected e) ≡ may_be_integer env e
by_open env expected e true p = rw p (open_integer expected e)
by_open env expected e false p = rw p refl

pub operand_is : (env : Environment) (expected : Option Ty) (e : Expr) → if_type_known is_integer (type_in env expected e) ≡ may_be_integer env e
operand_is env expected e = by_open env expected e (is_open e) refl

-- ---- one comparison, or more

pub compared : (env : Environment) (first : Expr) (all : List Operation) (one : Operation) → all ≡ one ∷ [] → compares env first one ≡ compares_integers env first (members_of all)
compared env first all one alone = sym (ap (λ (rest : List Operation). compares_integers env first (members_of rest)) alone ∙ same) where
  wanted : Option Ty
  wanted = wanted_first env None first (members_of (one ∷ []))

  same : compares_integers env first (members_of (one ∷ [])) ≡ compares env first one
  same = λ i. is_order one.operator && operand_is env wanted first i && operand_is env (wanted_behind env wanted first) one.operand i

pub compared_many : (env : Environment) (first : Expr) (all : List Operation) → 2 ≤ length all → false ≡ compares_integers env first (members_of all)
compared_many env first [] p = absurd (omega (arith, p))
compared_many env first (x ∷ []) p = absurd (omega (arith, p))
compared_many env first (x ∷ y ∷ all) p = refl

pub one_of : {X : Type 0} (xs : List X) (x : X) → 1 ≤ length xs → length xs < 2 → x ≡ get_or xs 0 x → xs ≡ x ∷ []
one_of [] x le lt is = absurd (omega (arith, le))
one_of (y ∷ []) x le lt is = ap (λ z. z ∷ []) (sym is)
one_of (y ∷ z ∷ ys) x le lt is = absurd (omega (arith, lt))
