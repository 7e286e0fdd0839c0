-- What compiles, by computation.
use Rattle.std.proofs.Common.{◌≡◌, ℕ, ◌+◌, pos, Bool, true, false, List, [], ◌∷◌, None, refl}
use Rattle.df_lang.specs.declared.ty.Ty.{Ty}
use Rattle.df_lang.specs.declared.ty.Ty.TheVariants as types
use Rattle.df_lang.specs.declared.expr.AddendOperator.TheVariants as addends
use Rattle.df_lang.specs.declared.expr.Arrow.TheVariants as arrows
use Rattle.df_lang.specs.declared.expr.Comparison.TheVariants as comparisons
use Rattle.df_lang.specs.Expr.{Expr, Number, Negate, Sum, Implies, Chain, As, Convert, no_addend, addend, no_member, member, no_link, link}
use Rattle.df_lang.specs.Stmt.{Value, Variable, Var, If, Assert, Print, Stmts, done, next, no_branch, branch}
use Rattle.df_lang.specs.Program.{Param}
use Rattle.df_lang.specs.Native.{NativeRule, Places, Integers, Forms, Breach, breaches_in_method}
use Rattle.df_lang.proofs.Samples.{at, N, param_of, loc, method_with, parity, below, counting}

abbrev broken_by : List Param → Stmts → List Breach
broken_by params body = breaches_in_method (method_with params [] [] [] None body)

abbrev breaks : NativeRule → ℕ → Breach
breaks rule col = record { rule = rule; pos = at col }

abbrev literal : Expr
literal = Number types.Int (pos 5) (at 2)

abbrev below_three : Expr → Expr
below_three e = Chain types.Int e (link comparisons.Less (at 5) (Number types.Int (pos 3) (at 2)) no_link)

abbrev printed : Ty → Expr → Stmts
printed ty e = next (Print (at 9) (Value ty e ∷ [])) done

-- ---- places

numbers_compile : breaches_in_method counting ≡ []
numbers_compile = refl

calls_compile : breaches_in_method (parity true 2 below) ≡ []
calls_compile = refl

an_int_parameter : broken_by (param_of types.Int ∷ []) done ≡ breaks Places 1 ∷ []
an_int_parameter = refl

abbrev variable : Bool → Variable
variable is_ghost = record { name = 0; pos = at 8; ty = types.Nat; is_ghost = is_ghost; local = 0 }

a_nat_variable : broken_by [] (next (Var (at 9) (variable false ∷ []) None) done) ≡ breaks Places 8 ∷ []
a_nat_variable = refl

a_ghost_variable : broken_by [] (next (Var (at 9) (variable true ∷ []) None) done) ≡ []
a_ghost_variable = refl

-- ---- whole numbers

a_printed_literal : broken_by [] (printed types.Int literal) ≡ breaks Integers 2 ∷ []
a_printed_literal = refl

a_compared_literal : broken_by (param_of N ∷ []) (printed types.Bool (below_three (As N types.Int (at 8) (loc 0)))) ≡ []
a_compared_literal = refl

a_printed_cast : broken_by (param_of N ∷ []) (printed types.Int (As N types.Int (at 8) (loc 0))) ≡ breaks Integers 8 ∷ []
a_printed_cast = refl

a_cast_of_a_cast : broken_by (param_of N ∷ []) (printed N (As types.Int N (at 10) (As N types.Int (at 8) (loc 0)))) ≡ []
a_cast_of_a_cast = refl

a_cast_literal : broken_by [] (printed N (As types.Int N (at 8) literal)) ≡ []
a_cast_literal = refl

-- the operand of a sign ends first
a_negated_literal : broken_by [] (printed types.Bool (below_three (Negate types.Int (at 8) literal))) ≡ breaks Integers 2 ∷ breaks Integers 8 ∷ []
a_negated_literal = refl

a_sum_of_literals : broken_by [] (printed types.Bool (below_three (Sum types.Int literal (addend addends.Plus (at 6) literal no_addend)))) ≡ breaks Integers 2 ∷ breaks Integers 2 ∷ breaks Integers 6 ∷ []
a_sum_of_literals = refl

-- `n + n < bound` at the column
abbrev sum_below : ℕ → ℕ → ℕ → Expr
sum_below n bound col =
    Chain types.Int (Sum types.Int (Number types.Int (pos n) (at col)) (addend addends.Plus (at (col + 2)) (Number types.Int (pos n) (at (col + 4))) no_addend))
    (link comparisons.Less (at (col + 6)) (Number types.Int (pos bound) (at (col + 8))) no_link)

abbrev guarded_by : Expr → Stmts
guarded_by guard = next (If (branch (at 1) guard done no_branch) done) done

-- `if 1 + 1 < 2 ==> 3 + 3 < 7 {}`
an_implication : broken_by [] (guarded_by (Implies arrows.Implies (sum_below 1 2 4) (member (at 14) (sum_below 3 7 18) no_member)))
    ≡ breaks Integers 4 ∷ breaks Integers 8 ∷ breaks Integers 6 ∷ breaks Integers 18 ∷ breaks Integers 22 ∷ breaks Integers 20 ∷ []
an_implication = refl

-- `if 1 + 1 < 2 <== 3 + 3 < 7 {}` is broken in the order of the text, though its right side is evaluated first
a_turned_implication : broken_by [] (guarded_by (Implies arrows.Explies (sum_below 3 7 18) (member (at 14) (sum_below 1 2 4) no_member)))
    ≡ breaks Integers 4 ∷ breaks Integers 8 ∷ breaks Integers 6 ∷ breaks Integers 18 ∷ breaks Integers 22 ∷ breaks Integers 20 ∷ []
a_turned_implication = refl

-- `if 1 + 1 < 2 <== 3 + 3 < 7 <== 5 + 5 < 11 {}`
a_turned_run : broken_by [] (guarded_by (Implies arrows.Explies (sum_below 5 11 32) (member (at 28) (sum_below 3 7 18) (member (at 14) (sum_below 1 2 4) no_member))))
    ≡ breaks Integers 4 ∷ breaks Integers 8 ∷ breaks Integers 6 ∷ breaks Integers 18 ∷ breaks Integers 22 ∷ breaks Integers 20 ∷ breaks Integers 32 ∷ breaks Integers 36 ∷ breaks Integers 34 ∷ []
a_turned_run = refl

an_assertion_is_not_compiled : broken_by [] (next (Assert (at 15) (below_three (Negate types.Int (at 8) literal))) done) ≡ []
an_assertion_is_not_compiled = refl

-- ---- forms

a_cast_to_nat : broken_by (param_of N ∷ []) (printed types.Bool (below_three (Convert types.Nat types.Int (at 8) (As N types.Nat (at 8) (loc 0))))) ≡ breaks Forms 8 ∷ []
a_cast_to_nat = refl
