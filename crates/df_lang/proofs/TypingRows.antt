-- What is well typed, and what is not, by computation.
use Rattle.std.proofs.Common.{◌≡◌, pos, Bool, true, false, [], ◌∷◌, None, refl}
use Rattle.df_lang.specs.declared.ty.Ty.TheVariants as types
use Rattle.df_lang.specs.Typing.{is_well_typed}
use Rattle.df_lang.specs.Stmt.{Var, next, done}
use Rattle.df_lang.specs.Program.{Method}
use Rattle.df_lang.proofs.Samples.{at, N, param_of, method_with, parities, below, alone, counting, leaving, giving, giving_away, cheating, unmeasured, measured, keep, narrow, taking, twos, bytes, told, num, tallying, calling, owing, in_turn}

typed_parities : is_well_typed (parities below) ≡ true
typed_parities = refl

typed_counting : is_well_typed (alone counting) ≡ true
typed_counting = refl

typed_leaving : is_well_typed (alone (leaving giving)) ≡ true
typed_leaving = refl

not_a_result : is_well_typed (alone (leaving giving_away)) ≡ false
not_a_result = refl

not_well_typed : is_well_typed (alone cheating) ≡ false
not_well_typed = refl

no_measure : is_well_typed (alone unmeasured) ≡ false
no_measure = refl

measure_by_clause : is_well_typed (alone measured) ≡ true
measure_by_clause = refl

typed_two : is_well_typed (twos (taking narrow narrow types.Nat types.Nat)) ≡ true
typed_two = refl

untyped_two : is_well_typed (twos (taking (keep types.Int) narrow types.Nat types.Nat)) ≡ false
untyped_two = refl

no_characters : is_well_typed (alone bytes) ≡ false
no_characters = refl

typed_told : is_well_typed (told below) ≡ true
typed_told = refl

typed_tallying : is_well_typed (alone (tallying (num (pos 3)))) ≡ true
typed_tallying = refl

typed_calling : is_well_typed (alone calling) ≡ true
typed_calling = refl

typed_owing : is_well_typed (alone (owing (num (pos 1)))) ≡ true
typed_owing = refl

typed_in_turn : is_well_typed (alone in_turn) ≡ true
typed_in_turn = refl

-- a parameter, a result and a variable, each marked as a ghost or not
abbrev marked : Bool → Bool → Bool → Method
marked parameter result variable =
    method_with (record { declared = (param_of N).declared; ty = N; is_ghost = parameter } ∷ []) (record { declared = (param_of N).declared; ty = N; is_ghost = result } ∷ []) [] [] None
    (next (Var (at 14) (record { name = 0; pos = at 18; ty = N; is_ghost = variable; local = 2 } ∷ []) None) done)

nothing_marked : is_well_typed (alone (marked false false false)) ≡ true
nothing_marked = refl

marked_parameter : is_well_typed (alone (marked true false false)) ≡ false
marked_parameter = refl

marked_result : is_well_typed (alone (marked false true false)) ≡ false
marked_result = refl

marked_variable : is_well_typed (alone (marked false false true)) ≡ false
marked_variable = refl
