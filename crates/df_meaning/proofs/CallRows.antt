-- Runs of calls, by computation.
use Rattle.std.proofs.Common.{◌≡◌, pos, negsuc, true, false, [], ◌∷◌, codes, ◌++◌, refl}
use Rattle.df_lang.specs.declared.ty.Ty.TheVariants as types
use Rattle.df_meaning.specs.declared.kind.Kind.TheVariants as kinds
use Rattle.df_meaning.specs.Outcome.{Gives, Wrong, TooDeep, Dismissed}
use Rattle.df_meaning.specs.State.{Given}
use Rattle.df_meaning.specs.Whole.{whole, run_method}
use Rattle.df_meaning.specs.Modular.{modular_run}
use Rattle.df_lang.proofs.Samples.{at, num, loc, minus, parity, parities, below, cheating, main_of, cheated, keep, narrow, taking, twos, alone, telling, told, calling, owing}
use Rattle.df_meaning.proofs.RowStates.{empty, handing, n, t, text_then, text_left}

seven_is_odd : run_method (whole (parities below) 8) (at 1) (parity true 2 below) (n (pos 7) ∷ []) empty ≡ Gives (record { values = t false ∷ []; store = empty })
seven_is_odd = refl

seven_is_deep : run_method (whole (parities below) 6) (at 1) (parity true 2 below) (n (pos 7) ∷ []) empty ≡ TooDeep
seven_is_deep = refl

tells_of_seven : text_left (run_method (whole (told below) 9) (at 1) telling [] empty) ≡ Gives (codes "false" ++ 10 ∷ [])
tells_of_seven = refl

tells_nothing_yet : run_method (whole (told below) 7) (at 1) telling [] empty ≡ TooDeep
tells_nothing_yet = refl

-- as a whole nothing decreases with the argument itself, and no depth is enough
tells_nothing : run_method (whole (told (loc 0)) 50) (at 1) telling [] empty ≡ TooDeep
tells_nothing = refl

does_not_decrease : modular_run (parities (loc 0)) (0 ∷ 1 ∷ 1 ∷ []) 0 1 (parity true 2 (loc 0)) (n (pos 7) ∷ []) (handing (Given (t true ∷ []) [] ∷ [])) ≡ Wrong (at 11) kinds.Decreases
does_not_decrease = refl

owes_the_precondition : modular_run (parities (minus (loc 0) (num (pos 9)))) (0 ∷ 1 ∷ 1 ∷ []) 0 1 (parity true 2 (minus (loc 0) (num (pos 9)))) (n (pos 7) ∷ []) empty ≡ Wrong (at 11) kinds.Requires
owes_the_precondition = refl

odd_does_not_decrease : modular_run (parities (loc 0)) (0 ∷ 1 ∷ 1 ∷ []) 0 2 (parity false 1 (loc 0)) (n (pos 7) ∷ []) (handing (Given (t true ∷ []) [] ∷ [])) ≡ Wrong (at 11) kinds.Decreases
odd_does_not_decrease = refl

decreases_by_one : text_then (modular_run (parities below) (0 ∷ 1 ∷ 1 ∷ []) 0 1 (parity true 2 below) (n (pos 7) ∷ []) (handing (Given (t true ∷ []) [] ∷ []))) ≡ Gives []
decreases_by_one = refl

calls_itself : modular_run (alone calling) (0 ∷ 1 ∷ []) 0 1 calling [] (handing (Given [] [] ∷ [])) ≡ Wrong (at 11) kinds.Decreases
calls_itself = refl

is_dismissed : modular_run (parities below) (0 ∷ 1 ∷ 1 ∷ []) 0 1 (parity true 2 below) (n (negsuc 0) ∷ []) empty ≡ Dismissed
is_dismissed = refl

-- What assigning a parameter would do: no part of the program is wrong, and the whole is. It is not well typed.
part_by_part : text_then (modular_run cheated (0 ∷ 1 ∷ 2 ∷ []) 3 1 cheating (n (pos 3) ∷ []) empty) ≡ Gives []
part_by_part = refl

main_alone : text_then (modular_run cheated (0 ∷ 1 ∷ 2 ∷ []) 3 2 main_of [] (handing (Given (n (pos 3) ∷ []) [] ∷ []))) ≡ Gives []
main_alone = refl

main_elsewhere : modular_run cheated (0 ∷ 1 ∷ 2 ∷ []) 3 2 main_of [] (handing (Given (n (pos 5) ∷ []) [] ∷ [])) ≡ Dismissed
main_elsewhere = refl

as_a_whole : run_method (whole cheated 5) (at 1) main_of [] empty ≡ Wrong (at 15) kinds.Assert
as_a_whole = refl

-- results of another type or number than the callee's do not fit
wrong_type : modular_run cheated (0 ∷ 1 ∷ 2 ∷ []) 3 2 main_of [] (handing (Given (t true ∷ []) [] ∷ [])) ≡ Dismissed
wrong_type = refl

wrong_number : modular_run cheated (0 ∷ 1 ∷ 2 ∷ []) 3 2 main_of [] (handing (Given [] [] ∷ [])) ≡ Dismissed
wrong_number = refl

nothing_handed : modular_run cheated (0 ∷ 1 ∷ 2 ∷ []) 3 2 main_of [] empty ≡ Dismissed
nothing_handed = refl

takes_two : run_method (whole (twos (taking narrow (keep types.Int) types.Nat types.Int)) 3) (at 1) (taking narrow (keep types.Int) types.Nat types.Int) [] empty ≡ Gives (record { values = n (pos 1) ∷ n (negsuc 0) ∷ []; store = empty })
takes_two = refl

too_narrow : run_method (whole (twos (taking narrow narrow types.Nat types.Nat)) 3) (at 1) (taking narrow narrow types.Nat types.Nat) [] empty ≡ Wrong (at 11) kinds.Range
too_narrow = refl

-- ---- what is owed in whole runs

whole_precondition : run_method (whole (parities (minus (loc 0) (num (pos 9)))) 8) (at 1) (parity true 2 (minus (loc 0) (num (pos 9)))) (n (pos 7) ∷ []) empty ≡ Wrong (at 11) kinds.Requires
whole_precondition = refl

precondition_of_the_entry : run_method (whole (parities below) 8) (at 1) (parity true 2 below) (n (negsuc 0) ∷ []) empty ≡ Wrong (at 1) kinds.Requires
precondition_of_the_entry = refl

whole_postcondition : run_method (whole (alone (owing (num (pos 2)))) 1) (at 1) (owing (num (pos 2))) [] empty ≡ Wrong (at 7) kinds.Ensures
whole_postcondition = refl

text_at_a_return : run_method (whole (alone (owing (num (pos 1)))) 1) (at 1) (owing (num (pos 1))) [] empty ≡ Gives (record { values = n (pos 1) ∷ []; store = record { text = 97 ∷ []; handed = [] } })
text_at_a_return = refl

-- wrong groups hide mutual recursion: the groups are not free
hidden_recursion : modular_run (parities (loc 0)) (0 ∷ 1 ∷ 2 ∷ []) 0 1 (parity true 2 (loc 0)) (n (pos 7) ∷ []) empty ≡ Dismissed
hidden_recursion = refl
