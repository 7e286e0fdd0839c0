-- Assignments with calls on the right, and what a call evaluates first, by computation.
use Rattle.std.proofs.Common.{◌≡◌, ℕ, pos, negsuc, List, [], ◌∷◌, None, Some, true, false, refl}
use Rattle.std.specs.List.{list_all}
use Rattle.df_lang.specs.declared.ty.Ty.TheVariants as types
use Rattle.df_lang.specs.declared.expr.FactorOperator.TheVariants as factors
use Rattle.df_lang.specs.declared.expr.Comparison.TheVariants as comparisons
use Rattle.df_lang.specs.Expr.{Expr, Character}
use Rattle.df_lang.specs.Stmt.{Value, Target, Source, Single, Results, Stmt, Assign, CallOf, Return, Print, done, next}
use Rattle.df_lang.specs.Program.{Method}
use Rattle.df_lang.specs.Typing.{is_well_typed}
use Rattle.df_lang.proofs.Samples.{at, N, param_of, num, loc, compared, over, clause_of, target_at, give, called, keep, method_with, pairs, alone}
use Rattle.df_meaning.specs.declared.kind.Kind.TheVariants as kinds
use Rattle.df_meaning.specs.Outcome.{Gives, Wrong}
use Rattle.df_meaning.specs.Whole.{whole, run_method}
use Rattle.df_meaning.specs.Modular.{modular_run}
use Rattle.df_meaning.proofs.RowStates.{beside, empty, n, text_left}

-- ---- a call beside another right side

-- it gives 7
abbrev seven : Method
seven = method_with [] (param_of N ∷ []) [] [] None (next (give 0 N (num (pos 7))) done)

abbrev called_seven : Source
called_seven = Results (called 1 []) (keep N ∷ [])

-- `a := 1; b := 2; a, b := M(), a;`
abbrev call_and_local : Method
call_and_local = pairs (target_at 0 N ∷ target_at 1 N ∷ []) (called_seven ∷ Single N (loc 0) ∷ [])

-- `a := 1; a := M(); b := a;`
abbrev call_then_local : Method
call_then_local = method_with [] (param_of N ∷ param_of N ∷ []) [] [] None
    (next (give 0 N (num (pos 1))) (next (Assign (at 9) (record { targets = target_at 0 N ∷ []; sources = called_seven ∷ [] })) (next (give 1 N (loc 0)) done)))

call_beside_a_local : run_method (whole (beside seven call_and_local) 1) (at 1) call_and_local [] empty ≡ Gives (record { values = n (pos 7) ∷ n (pos 1) ∷ []; store = empty })
call_beside_a_local = refl

call_before_a_local : run_method (whole (beside seven call_then_local) 1) (at 1) call_then_local [] empty ≡ Gives (record { values = n (pos 7) ∷ n (pos 7) ∷ []; store = empty })
call_before_a_local = refl

-- ---- two calls that print

-- it prints its argument
abbrev writing : Method
writing = method_with (param_of types.Char ∷ []) (param_of types.Char ∷ []) [] [] None
    (next (Print (at 9) (Value types.Char (loc 0) ∷ [])) (next (give 1 types.Char (loc 0)) done))

abbrev writes : ℕ → Source
writes code = Results (called 1 (Character code (at 2) ∷ [])) (keep types.Char ∷ [])

-- `a, b := M(..), M(..);`
abbrev two_calls : ℕ → ℕ → Method
two_calls one other = method_with [] (param_of types.Char ∷ param_of types.Char ∷ []) [] [] None
    (next (Assign (at 9) (record { targets = target_at 0 types.Char ∷ target_at 1 types.Char ∷ []; sources = writes one ∷ writes other ∷ [] })) done)

calls_in_order : text_left (run_method (whole (beside writing (two_calls 97 98)) 1) (at 1) (two_calls 97 98) [] empty) ≡ Gives (97 ∷ 98 ∷ [])
calls_in_order = refl

calls_the_other_way : text_left (run_method (whole (beside writing (two_calls 98 97)) 1) (at 1) (two_calls 98 97) [] empty) ≡ Gives (98 ∷ 97 ∷ [])
calls_the_other_way = refl

-- ---- `return M();`, and what is behind it isn't run

abbrev with_call : (List Target → List Source → Stmt) → Method
with_call stmt = method_with [] (param_of N ∷ []) [] [] None (next (stmt (target_at 0 N ∷ []) (called_seven ∷ [])) (next (give 0 N (num (pos 1))) done))

abbrev returning_call : Method
returning_call = with_call (λ ts ss. Return (at 16) (Some (record { targets = ts; sources = ss })))

abbrev assigning_call : Method
assigning_call = with_call (λ ts ss. Assign (at 9) (record { targets = ts; sources = ss }))

returns_a_call : run_method (whole (beside seven returning_call) 1) (at 1) returning_call [] empty ≡ Gives (record { values = n (pos 7) ∷ []; store = empty })
returns_a_call = refl

assigns_a_call : run_method (whole (beside seven assigning_call) 1) (at 1) assigning_call [] empty ≡ Gives (record { values = n (pos 1) ∷ []; store = empty })
assigns_a_call = refl

-- ---- arguments before `requires`

-- `requires 0 <= x`
abbrev asking : Method
asking = method_with (param_of N ∷ param_of N ∷ []) [] (clause_of (compared (num (pos 0)) comparisons.AtMost (loc 0)) ∷ []) [] None done

abbrev asked : Expr → Method
asked second = method_with [] [] [] [] None (next (CallOf (called 1 (num (negsuc 0) ∷ second ∷ []))) done)

abbrev by_zero : Expr
by_zero = over factors.Divide (num (pos 1)) (num (pos 0))

argument_first : run_method (whole (beside asking (asked by_zero)) 1) (at 1) (asked by_zero) [] empty ≡ Wrong (at 6) kinds.Divisor
argument_first = refl

precondition_then : run_method (whole (beside asking (asked (num (pos 1)))) 1) (at 1) (asked (num (pos 1))) [] empty ≡ Wrong (at 11) kinds.Requires
precondition_then = refl

modular_argument_first : modular_run (beside asking (asked by_zero)) (0 ∷ 1 ∷ 2 ∷ []) 0 2 (asked by_zero) [] empty ≡ Wrong (at 6) kinds.Divisor
modular_argument_first = refl

modular_precondition_then : modular_run (beside asking (asked (num (pos 1)))) (0 ∷ 1 ∷ 2 ∷ []) 0 2 (asked (num (pos 1))) [] empty ≡ Wrong (at 11) kinds.Requires
modular_precondition_then = refl

-- ---- a print with a wrong second operand

abbrev printing_second : Expr → Method
printing_second second = method_with [] [] [] [] None (next (Print (at 9) (Value types.Char (Character 97 (at 2)) ∷ Value types.Bool (compared second comparisons.Less (num (pos 0))) ∷ [])) done)

keeps_no_text : text_left (run_method (whole (alone (printing_second by_zero)) 0) (at 1) (printing_second by_zero) [] empty) ≡ Wrong (at 6) kinds.Divisor
keeps_no_text = refl

keeps_the_text : text_left (run_method (whole (alone (printing_second (num (negsuc 0)))) 0) (at 1) (printing_second (num (negsuc 0))) [] empty) ≡ Gives (97 ∷ 116 ∷ 114 ∷ 117 ∷ 101 ∷ [])
keeps_the_text = refl

-- ---- all of them are well typed

typed_updates : list_all is_well_typed (beside seven call_and_local ∷ beside seven call_then_local ∷ beside writing (two_calls 97 98) ∷ beside seven returning_call ∷ beside seven assigning_call ∷ beside asking (asked by_zero) ∷ alone (printing_second by_zero) ∷ []) ≡ true
typed_updates = refl

-- a call of two results for one place is not
not_typed : is_well_typed (beside call_and_local returning_call) ≡ false
not_typed = refl
