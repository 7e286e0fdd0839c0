-- Assignments, printed texts, values of expressions and their order, by computation.
use Rattle.std.proofs.Common.{◌≡◌, pos, negsuc, true, false, [], ◌∷◌, refl}
use Rattle.df_lang.specs.declared.ty.Ty.TheVariants as types
use Rattle.df_lang.specs.declared.expr.FactorOperator.TheVariants as factors
use Rattle.df_lang.specs.declared.expr.Junction.TheVariants as junctions
use Rattle.df_lang.specs.declared.expr.Comparison.TheVariants as comparisons
use Rattle.df_lang.specs.Expr.{Character, Junction, Chain, As, Convert, no_member, member, no_link, link}
use Rattle.df_lang.proofs.Samples.{at, N, num, loc, truth_expr, compared, minus, plus, over, alone, swapping, in_turn, meeting, printing}
use Rattle.df_meaning.specs.declared.kind.Kind.TheVariants as kinds
use Rattle.df_meaning.specs.Outcome.{Gives, Wrong}
use Rattle.df_meaning.specs.Whole.{whole, run_method}
use Rattle.df_meaning.specs.Modular.{modular_run}
use Rattle.df_meaning.specs.Order.{are_below}
use Rattle.df_meaning.proofs.RowStates.{empty, n, t, text_then, worth, gives_number}

swaps : run_method (whole (alone swapping) 0) (at 1) swapping [] empty ≡ Gives (record { values = n (pos 2) ∷ n (pos 1) ∷ []; store = empty })
swaps = refl

-- one after the other is no swap
no_swap : run_method (whole (alone in_turn) 0) (at 1) in_turn [] empty ≡ Gives (record { values = n (pos 2) ∷ n (pos 2) ∷ []; store = empty })
no_swap = refl

places_meet : run_method (whole (alone (meeting (loc 0))) 0) (at 1) (meeting (loc 0)) [] empty ≡ Wrong (at 20) kinds.Distinct
places_meet = refl

values_meet : run_method (whole (alone (meeting (num (pos 2)))) 0) (at 1) (meeting (num (pos 2))) [] empty ≡ Gives (record { values = n (pos 2) ∷ n (pos 2) ∷ []; store = empty })
values_meet = refl

-- ---- expressions

quotient : worth (over factors.Divide (loc 0) (loc 1)) ≡ Gives (n (negsuc 3))
quotient = refl

remainder : worth (over factors.Modulo (loc 0) (loc 1)) ≡ Gives (n (pos 1))
remainder = refl

quotient_by_less : worth (over factors.Divide (loc 0) (loc 2)) ≡ Gives (n (pos 4))
quotient_by_less = refl

remainder_by_less : worth (over factors.Modulo (loc 0) (loc 2)) ≡ Gives (n (pos 1))
remainder_by_less = refl

-- toward zero it would be -3, and the remainder -1
not_toward_zero : gives_number (negsuc 2) (worth (over factors.Divide (loc 0) (loc 1))) ≡ false
not_toward_zero = refl

no_negative_remainder : gives_number (negsuc 0) (worth (over factors.Modulo (loc 0) (loc 1))) ≡ false
no_negative_remainder = refl

of_more : worth (over factors.Divide (num (pos 7)) (loc 1)) ≡ Gives (n (pos 3))
of_more = refl

remainder_of_more : worth (over factors.Modulo (num (pos 7)) (loc 1)) ≡ Gives (n (pos 1))
remainder_of_more = refl

of_more_by_less : worth (over factors.Divide (num (pos 7)) (loc 2)) ≡ Gives (n (negsuc 2))
of_more_by_less = refl

remainder_of_more_by_less : worth (over factors.Modulo (num (pos 7)) (loc 2)) ≡ Gives (n (pos 1))
remainder_of_more_by_less = refl

-- below it would be -4
not_down : gives_number (negsuc 3) (worth (over factors.Divide (num (pos 7)) (loc 2))) ≡ false
not_down = refl

by_zero : worth (over factors.Divide (loc 0) (loc 3)) ≡ Wrong (at 6) kinds.Divisor
by_zero = refl

past_the_end : worth (minus (plus (loc 4) (num (pos 1))) (num (pos 1))) ≡ Wrong (at 6) kinds.Range
past_the_end = refl

lazy : worth (Junction junctions.Or (truth_expr true) (member (at 8) (compared (over factors.Divide (loc 0) (loc 3)) comparisons.Less (loc 0)) no_member)) ≡ Gives (t true)
lazy = refl

chain_stops : worth (Chain N (loc 1) (link comparisons.Less (at 5) (loc 0) (link comparisons.Less (at 5) (over factors.Divide (loc 0) (loc 3)) no_link))) ≡ Gives (t false)
chain_stops = refl

code_of_a : worth (As types.Char N (at 8) (Character 97 (at 8))) ≡ Gives (n (pos 97))
code_of_a = refl

no_character : worth (As N types.Char (at 8) (loc 0)) ≡ Wrong (at 8) kinds.Range
no_character = refl

narrows : worth (Convert types.Int types.Nat (at 8) (As N types.Int (at 2) (loc 0))) ≡ Wrong (at 8) kinds.Range
narrows = refl

-- ---- the order

shorter_is_above : are_below (n (pos 5) ∷ []) [] ≡ true
shorter_is_above = refl

longer_is_below : are_below (n (pos 5) ∷ n (pos 9) ∷ []) (n (pos 5) ∷ []) ≡ true
longer_is_below = refl

top_is_not_below : are_below [] (n (pos 5) ∷ []) ≡ false
top_is_not_below = refl

same_is_not_below : are_below (t true ∷ n (pos 1) ∷ []) (t true ∷ n (pos 1) ∷ []) ≡ false
same_is_not_below = refl

first_decides : are_below (t false ∷ n (pos 9) ∷ []) (t true ∷ n (pos 1) ∷ []) ≡ true
first_decides = refl

below_nothing_negative : are_below (n (negsuc 5) ∷ []) (n (negsuc 1) ∷ []) ≡ false
below_nothing_negative = refl

negative_below : are_below (n (negsuc 5) ∷ []) (n (pos 0) ∷ []) ≡ true
negative_below = refl

prints : text_then (modular_run (alone printing) (0 ∷ 1 ∷ []) 0 1 printing [] empty) ≡ Gives (97 ∷ 116 ∷ 114 ∷ 117 ∷ 101 ∷ 98 ∷ [])
prints = refl
