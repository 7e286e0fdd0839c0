-- Modular runs: clauses without a value, measures, and what is told first, by computation.
use Rattle.std.proofs.Common.{◌≡◌, pos, List, [], ◌∷◌, map, Option, None, Some, true, false, refl}
use Rattle.std.specs.List.{list_all}
use Rattle.df_lang.specs.declared.expr.FactorOperator.TheVariants as factors
use Rattle.df_lang.specs.declared.expr.Junction.TheVariants as junctions
use Rattle.df_lang.specs.declared.expr.Comparison.TheVariants as comparisons
use Rattle.df_lang.specs.Expr.{Expr, Junction, no_member, member}
use Rattle.df_lang.specs.Stmt.{Results, Measure, Assign, CallOf, While, Assert, done, next}
use Rattle.df_lang.specs.Program.{Method}
use Rattle.df_lang.specs.Typing.{is_well_typed}
use Rattle.df_lang.proofs.Samples.{at, N, param_of, num, loc, compared, plus, minus, over, clause_of, target_at, give, called, keep, method_with, alone, step}
use Rattle.df_meaning.specs.declared.kind.Kind.TheVariants as kinds
use Rattle.df_meaning.specs.Value as values
use Rattle.df_meaning.specs.Outcome.{Outcome, Gives, Wrong, Dismissed}
use Rattle.df_meaning.specs.State.{Handed, Given, State}
use Rattle.df_meaning.specs.Modular.{modular_run}
use Rattle.df_meaning.proofs.RowStates.{beside, empty, handing, n, counter, text_then}

-- the only method, on one argument
abbrev run_alone : Method → values.Value → List Handed → Outcome State
run_alone m argument handed = modular_run (alone m) (0 ∷ 1 ∷ []) 1 1 m (argument ∷ []) (handing handed)

-- `1 / x == 1`: of 0 it has no value
abbrev is_one : Expr → Expr
is_one x = compared (over factors.Divide (num (pos 1)) x) comparisons.Equal (num (pos 1))

-- ---- `requires`

abbrev requiring : Method
requiring = method_with (param_of N ∷ []) [] (clause_of (is_one (loc 0)) ∷ []) [] None done

undefined_precondition : run_alone requiring (n (pos 0)) [] ≡ Wrong (at 6) kinds.Divisor
undefined_precondition = refl

untrue_precondition : run_alone requiring (n (pos 2)) [] ≡ Dismissed
untrue_precondition = refl

true_precondition : text_then (run_alone requiring (n (pos 1)) []) ≡ Gives []
true_precondition = refl

abbrev passing : Method
passing = method_with (param_of N ∷ []) [] [] [] None (next (CallOf (called 1 (loc 0 ∷ []))) done)

-- of a callee it is wrong too, inside the callee's clause
undefined_of_a_callee : modular_run (beside requiring passing) (0 ∷ 1 ∷ 2 ∷ []) 0 2 passing (n (pos 0) ∷ []) empty ≡ Wrong (at 6) kinds.Divisor
undefined_of_a_callee = refl

untrue_of_a_callee : modular_run (beside requiring passing) (0 ∷ 1 ∷ 2 ∷ []) 0 2 passing (n (pos 2) ∷ []) empty ≡ Wrong (at 11) kinds.Requires
untrue_of_a_callee = refl

-- ---- calls into another group owe no decrease, though the argument does not fall

abbrev taken : Method
taken = method_with (param_of N ∷ []) [] [] [] None done

another_group : text_then (modular_run (beside taken passing) (0 ∷ 1 ∷ 2 ∷ []) 0 2 passing (n (pos 3) ∷ []) (handing (Given [] [] ∷ []))) ≡ Gives []
another_group = refl

same_group : modular_run (beside taken passing) (0 ∷ 1 ∷ 1 ∷ []) 0 2 passing (n (pos 3) ∷ []) (handing (Given [] [] ∷ [])) ≡ Wrong (at 11) kinds.Decreases
same_group = refl

-- ---- explicit lists of measures

abbrev measures : List Expr → Option (List Measure)
measures values = Some (map (λ (value : Expr). record { ty = N; value = value }) values)

-- `r := 0; while r < n decreases .. { r := r + 1; }`
abbrev stepping : List Expr → Method
stepping values = method_with (param_of N ∷ []) (param_of N ∷ []) [] [] None
    (next (give 1 N (num (pos 0))) (next (While (at 14) (compared (loc 1) comparisons.Less (loc 0)) [] (measures values) (next step done)) done))

second_falls : run_alone (stepping (loc 0 ∷ minus (loc 0) (loc 1) ∷ [])) (n (pos 4)) (counter (pos 2) ∷ []) ≡ Dismissed
second_falls = refl

first_falls : run_alone (stepping (minus (loc 0) (loc 1) ∷ loc 1 ∷ [])) (n (pos 4)) (counter (pos 2) ∷ []) ≡ Dismissed
first_falls = refl

first_rises : run_alone (stepping (loc 1 ∷ minus (loc 0) (loc 1) ∷ [])) (n (pos 4)) (counter (pos 2) ∷ []) ≡ Wrong (at 14) kinds.Decreases
first_rises = refl

none_falls : run_alone (stepping (loc 0 ∷ num (pos 1) ∷ [])) (n (pos 4)) (counter (pos 2) ∷ []) ≡ Wrong (at 14) kinds.Decreases
none_falls = refl

-- a measure without a value is evaluated behind a true guard alone
undefined_measure : run_alone (stepping (over factors.Divide (loc 0) (num (pos 0)) ∷ [])) (n (pos 4)) (counter (pos 2) ∷ []) ≡ Wrong (at 6) kinds.Divisor
undefined_measure = refl

behind_a_false_guard : text_then (run_alone (stepping (over factors.Divide (loc 0) (num (pos 0)) ∷ [])) (n (pos 4)) (counter (pos 4) ∷ [])) ≡ Gives []
behind_a_false_guard = refl

-- `method M(x) decreases .. { M(..); }`
abbrev recursing : Option (List Measure) → Expr → Method
recursing decreases argument = method_with (param_of N ∷ []) [] [] [] decreases (next (CallOf (called 1 (argument ∷ []))) done)

abbrev rising : Expr
rising = plus (loc 0) (num (pos 1))

falls_by_its_clause : text_then (run_alone (recursing (measures (num (pos 1) ∷ minus (num (pos 5)) (loc 0) ∷ [])) rising) (n (pos 2)) (Given [] [] ∷ [])) ≡ Gives []
falls_by_its_clause = refl

rises_by_its_clause : run_alone (recursing (measures (num (pos 1) ∷ loc 0 ∷ [])) rising) (n (pos 2)) (Given [] [] ∷ []) ≡ Wrong (at 11) kinds.Decreases
rises_by_its_clause = refl

rises_by_default : run_alone (recursing None rising) (n (pos 2)) (Given [] [] ∷ []) ≡ Wrong (at 11) kinds.Decreases
rises_by_default = refl

-- inside its group a callee's measure without a value is wrong, inside the callee's clause
undefined_callee_measure : run_alone (recursing (measures (over factors.Divide (num (pos 1)) (loc 0) ∷ [])) (num (pos 0))) (n (pos 2)) (Given [] [] ∷ []) ≡ Wrong (at 6) kinds.Divisor
undefined_callee_measure = refl

-- ---- measures by default

-- `r := n; while guard { r := value; }`
abbrev guarded : Expr → Expr → Method
guarded guard value = method_with (param_of N ∷ []) (param_of N ∷ []) [] [] None
    (next (give 1 N (loc 0)) (next (While (at 14) guard [] None (next (give 1 N value) done)) done))

abbrev one_less : Expr
one_less = minus (loc 1) (num (pos 1))

abbrev one_more : Expr
one_more = plus (loc 1) (num (pos 1))

abbrev above_zero : Expr
above_zero = compared (loc 1) comparisons.Greater (num (pos 0))

abbrev from_zero : Expr
from_zero = compared (loc 1) comparisons.AtLeast (num (pos 0))

falls_above : run_alone (guarded above_zero one_less) (n (pos 4)) (counter (pos 2) ∷ []) ≡ Dismissed
falls_above = refl

rises_above : run_alone (guarded above_zero one_more) (n (pos 4)) (counter (pos 2) ∷ []) ≡ Wrong (at 14) kinds.Decreases
rises_above = refl

-- also from 0, the last value for which the guard is true
falls_from_zero : run_alone (guarded from_zero one_less) (n (pos 4)) (counter (pos 0) ∷ []) ≡ Dismissed
falls_from_zero = refl

rises_from_zero : run_alone (guarded from_zero one_more) (n (pos 4)) (counter (pos 0) ∷ []) ≡ Wrong (at 14) kinds.Decreases
rises_from_zero = refl

abbrev both : Expr → Expr → Expr
both a b = Junction junctions.And a (member (at 8) b no_member)

first_conjunct_falls : run_alone (guarded (both above_zero (compared (num (pos 0)) comparisons.Less (loc 0))) one_less) (n (pos 4)) (counter (pos 2) ∷ []) ≡ Dismissed
first_conjunct_falls = refl

second_conjunct_falls : run_alone (guarded (both (compared (num (pos 0)) comparisons.Less (loc 0)) above_zero) one_less) (n (pos 4)) (counter (pos 2) ∷ []) ≡ Wrong (at 14) kinds.Decreases
second_conjunct_falls = refl

-- ---- what is handed in and makes a clause undefined does not fit

-- `ensures 1 / r == 1`, and it gives 0
abbrev promising : Method
promising = method_with [] (param_of N ∷ []) [] (clause_of (is_one (loc 0)) ∷ []) None (next (give 0 N (num (pos 0))) done)

abbrev trusting : Method
trusting = method_with [] (param_of N ∷ []) [] [] None
    (next (Assign (at 9) (record { targets = target_at 0 N ∷ []; sources = Results (called 1 []) (keep N ∷ []) ∷ [] }))
    (next (Assert (at 15) (compared (loc 0) comparisons.Equal (num (pos 1)))) done))

abbrev trusting_on : values.Value → Outcome State
trusting_on value = modular_run (beside promising trusting) (0 ∷ 1 ∷ 2 ∷ []) 0 2 trusting [] (handing (Given (value ∷ []) [] ∷ []))

undefined_of_results : trusting_on (n (pos 0)) ≡ Dismissed
undefined_of_results = refl

untrue_of_results : trusting_on (n (pos 2)) ≡ Dismissed
untrue_of_results = refl

true_of_results : text_then (trusting_on (n (pos 1))) ≡ Gives []
true_of_results = refl

-- in its own run it is wrong
undefined_of_its_own : modular_run (beside promising trusting) (0 ∷ 1 ∷ 2 ∷ []) 0 1 promising [] empty ≡ Wrong (at 6) kinds.Divisor
undefined_of_its_own = refl

-- `r := first; while r < n invariant 1 / r == 1 { r := value; }`
abbrev inverting : Expr → Expr → Method
inverting first value = method_with (param_of N ∷ []) (param_of N ∷ []) [] [] None
    (next (give 1 N first) (next (While (at 14) (compared (loc 1) comparisons.Less (loc 0)) (clause_of (is_one (loc 1)) ∷ []) None (next (give 1 N value) done)) done))

undefined_before_a_turn : run_alone (inverting (num (pos 1)) (num (pos 0))) (n (pos 4)) (counter (pos 0) ∷ []) ≡ Dismissed
undefined_before_a_turn = refl

undefined_after_a_turn : run_alone (inverting (num (pos 1)) (num (pos 0))) (n (pos 4)) (counter (pos 1) ∷ []) ≡ Wrong (at 6) kinds.Divisor
undefined_after_a_turn = refl

undefined_on_entry : run_alone (inverting (num (pos 0)) (num (pos 1))) (n (pos 4)) (counter (pos 1) ∷ []) ≡ Wrong (at 6) kinds.Divisor
undefined_on_entry = refl

-- ---- invariants before the decrease: behind the turn neither is kept where r is 0, and the decrease alone is not where it is 1

-- `r := 0; while r < n invariant 0 <= r { r := r - 1; }`
abbrev sinking : Method
sinking = method_with (param_of N ∷ []) (param_of N ∷ []) [] [] None
    (next (give 1 N (num (pos 0))) (next (While (at 14) (compared (loc 1) comparisons.Less (loc 0)) (clause_of (compared (num (pos 0)) comparisons.AtMost (loc 1)) ∷ []) None (next (give 1 N one_less) done)) done))

turn_before_decrease : run_alone sinking (n (pos 4)) (counter (pos 0) ∷ []) ≡ Wrong (at 7) kinds.Turn
turn_before_decrease = refl

decrease_then : run_alone sinking (n (pos 4)) (counter (pos 1) ∷ []) ≡ Wrong (at 14) kinds.Decreases
decrease_then = refl

-- ---- all of them are well typed

typed_programs : list_all is_well_typed (beside requiring passing ∷ beside taken passing ∷ beside promising trusting ∷ alone (recursing (measures (num (pos 1) ∷ loc 0 ∷ [])) rising) ∷ []) ≡ true
typed_programs = refl

typed_loops : list_all is_well_typed (alone (stepping (loc 1 ∷ minus (loc 0) (loc 1) ∷ [])) ∷ alone (guarded (both above_zero from_zero) one_less) ∷ alone (inverting (num (pos 1)) (num (pos 0))) ∷ alone sinking ∷ []) ≡ true
typed_loops = refl

-- a guard without a measure is not, where there is no clause
not_typed : is_well_typed (alone (guarded (compared (loc 1) comparisons.NotEqual (num (pos 0))) one_less)) ≡ false
not_typed = refl
