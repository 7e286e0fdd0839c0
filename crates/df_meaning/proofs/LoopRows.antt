-- Runs of loops, by computation.
use Rattle.std.proofs.Common.{◌≡◌, pos, negsuc, true, [], ◌∷◌, None, Some, codes, refl}
use Rattle.std.specs.Fmt.{digits}
use Rattle.df_lang.specs.Stmt.{Stmts, While, Break, Return, done, next}
use Rattle.df_lang.specs.Program.{Method}
use Rattle.df_lang.proofs.Samples.{at, N, loc, truth_expr, plus, give, count, step, alone, counting, bounded, forgetting, standing, leaving, giving, broken, staying, returning, keeping, num, tallying}
use Rattle.df_meaning.specs.declared.kind.Kind.TheVariants as kinds
use Rattle.df_meaning.specs.Outcome.{Gives, Wrong, TooDeep, Dismissed}
use Rattle.df_meaning.specs.Whole.{whole, run_method}
use Rattle.df_meaning.specs.Modular.{modular_run}
use Rattle.df_meaning.proofs.RowStates.{empty, handing, n, counter, text_then, text_left}

counts : run_method (whole (alone counting) 4) (at 1) counting (n (pos 4) ∷ []) empty ≡ Gives (record { values = n (pos 4) ∷ []; store = empty })
counts = refl

tallies : text_left (run_method (whole (alone (tallying (num (pos 3)))) 3) (at 1) (tallying (num (pos 3))) [] empty) ≡ Gives (codes "012")
unfolding digits
tallies = refl

tally_is_deep : run_method (whole (alone (tallying (num (pos 3)))) 2) (at 1) (tallying (num (pos 3))) [] empty ≡ TooDeep
tally_is_deep = refl

tallies_too_far : run_method (whole (alone (tallying (num (pos 2)))) 3) (at 1) (tallying (num (pos 2))) [] empty ≡ Wrong (at 7) kinds.Turn
tallies_too_far = refl

count_is_deep : run_method (whole (alone counting) 3) (at 1) counting (n (pos 4) ∷ []) empty ≡ TooDeep
count_is_deep = refl

fails_on_entry : run_method (whole (alone counting) 4) (at 1) counting (n (negsuc 0) ∷ []) empty ≡ Wrong (at 7) kinds.Entry
fails_on_entry = refl

fails_after_a_turn : run_method (whole (alone bounded) 9) (at 1) bounded (n (pos 5) ∷ []) empty ≡ Wrong (at 7) kinds.Turn
fails_after_a_turn = refl

one_turn : modular_run (alone counting) (0 ∷ 1 ∷ []) 1 1 counting (n (pos 4) ∷ []) (handing (counter (pos 2) ∷ [])) ≡ Dismissed
one_turn = refl

not_invariant : modular_run (alone counting) (0 ∷ 1 ∷ []) 1 1 counting (n (pos 4) ∷ []) (handing (counter (pos 5) ∷ [])) ≡ Dismissed
not_invariant = refl

not_of_the_type : modular_run (alone forgetting) (0 ∷ 1 ∷ []) 1 1 forgetting (n (pos 4) ∷ []) (handing (counter (pos 500) ∷ [])) ≡ Dismissed
not_of_the_type = refl

assigned_is_unknown : modular_run (alone forgetting) (0 ∷ 1 ∷ []) 1 1 forgetting (n (pos 4) ∷ []) (handing (counter (pos 9) ∷ [])) ≡ Wrong (at 15) kinds.Assert
assigned_is_unknown = refl

loop_does_not_decrease : modular_run (alone standing) (0 ∷ 1 ∷ []) 1 1 standing (n (pos 4) ∷ []) (handing (counter (pos 2) ∷ [])) ≡ Wrong (at 14) kinds.Decreases
loop_does_not_decrease = refl

never_ends : run_method (whole (alone standing) 50) (at 1) standing (n (pos 4) ∷ []) empty ≡ TooDeep
never_ends = refl

breaks : run_method (whole (alone (leaving (Break (at 16)))) 9) (at 1) (leaving (Break (at 16))) (n (pos 5) ∷ []) empty ≡ Gives (record { values = n (pos 52) ∷ []; store = empty })
breaks = refl

returns : run_method (whole (alone (leaving (Return (at 16) None))) 9) (at 1) (leaving (Return (at 16) None)) (n (pos 5) ∷ []) empty ≡ Gives (record { values = n (pos 2) ∷ []; store = empty })
returns = refl

returns_a_value : run_method (whole (alone (leaving giving)) 9) (at 1) (leaving giving) (n (pos 5) ∷ []) empty ≡ Gives (record { values = n (pos 33) ∷ []; store = empty })
returns_a_value = refl

entry_first : modular_run (alone counting) (0 ∷ 1 ∷ []) 0 1 counting (n (negsuc 0) ∷ []) empty ≡ Wrong (at 7) kinds.Entry
entry_first = refl

turn_checked : modular_run (alone bounded) (0 ∷ 1 ∷ []) 1 1 bounded (n (pos 5) ∷ []) (handing (counter (pos 2) ∷ [])) ≡ Wrong (at 7) kinds.Turn
turn_checked = refl

-- also behind the last turn
last_turn_checked : modular_run (alone bounded) (0 ∷ 1 ∷ []) 1 1 bounded (n (pos 3) ∷ []) (handing (counter (pos 2) ∷ [])) ≡ Wrong (at 7) kinds.Turn
last_turn_checked = refl

last_turn_checked_too : run_method (whole (alone bounded) 9) (at 1) bounded (n (pos 3) ∷ []) empty ≡ Wrong (at 7) kinds.Turn
last_turn_checked_too = refl

turn_ends : modular_run (alone bounded) (0 ∷ 1 ∷ []) 1 1 bounded (n (pos 5) ∷ []) (handing (counter (pos 1) ∷ [])) ≡ Dismissed
turn_ends = refl

behind_the_loop : text_then (modular_run (alone counting) (0 ∷ 1 ∷ []) 1 1 counting (n (pos 4) ∷ []) (handing (counter (pos 4) ∷ []))) ≡ Gives []
behind_the_loop = refl

deeper_loop : modular_run (alone counting) (0 ∷ 1 ∷ []) 0 1 counting (n (pos 4) ∷ []) (handing (counter (pos 4) ∷ [])) ≡ TooDeep
deeper_loop = refl

state_of_a_break : modular_run (alone broken) (0 ∷ 1 ∷ []) 1 1 broken (n (pos 4) ∷ []) (handing (counter (pos 2) ∷ [])) ≡ Wrong (at 15) kinds.Assert
state_of_a_break = refl

other_break : text_then (modular_run (alone broken) (0 ∷ 1 ∷ []) 1 1 broken (n (pos 4) ∷ []) (handing (counter (pos 1) ∷ []))) ≡ Gives []
other_break = refl

stays_known : text_then (modular_run (alone staying) (0 ∷ 1 ∷ []) 1 1 staying (n (pos 4) ∷ []) (handing (counter (pos 2) ∷ []))) ≡ Gives []
stays_known = refl

owes_at_a_return : modular_run (alone returning) (0 ∷ 1 ∷ []) 1 1 returning (n (pos 4) ∷ []) (handing (counter (pos 2) ∷ [])) ≡ Wrong (at 7) kinds.Ensures
owes_at_a_return = refl

-- what a `return` in a loop gives reaches nothing behind it
given_by_a_return : text_then (modular_run (alone keeping) (0 ∷ 1 ∷ []) 1 1 keeping (n (pos 0) ∷ []) (handing (counter (pos 9) ∷ []))) ≡ Gives []
given_by_a_return = refl

-- ---- a `break` ends the inner loop alone

-- `r := 0; while r < n { while true { break; } .. } r := r + 50;`
abbrev nested : Stmts → Method
nested rest = count [] (next (While (at 19) (truth_expr true) [] (Some []) (next (Break (at 16)) done)) rest) (next (give 1 N (plus (loc 1) (num (pos 50)))) done)

breaks_the_inner_loop : run_method (whole (alone (nested (next step done))) 9) (at 1) (nested (next step done)) (n (pos 2) ∷ []) empty ≡ Gives (record { values = n (pos 52) ∷ []; store = empty })
breaks_the_inner_loop = refl

breaks_both_loops : run_method (whole (alone (nested (next (Break (at 16)) (next step done)))) 9) (at 1) (nested (next (Break (at 16)) (next step done))) (n (pos 2) ∷ []) empty ≡ Gives (record { values = n (pos 50) ∷ []; store = empty })
breaks_both_loops = refl
