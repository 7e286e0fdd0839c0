-- Demands that are broken, computed on the definition of a step.
use Rattle.std.proofs.Common.{◌≡◌, ℕ, ℤ, pos, negsuc, true, List, [], ◌∷◌, codes, Option, None, refl}
use Rattle.df_nmach.specs.declared.instruction.Range.{Range}
use Rattle.df_nmach.specs.declared.instruction.UnaryOperator.TheVariants.{Negate, Fit, Not, Character}
use Rattle.df_nmach.specs.declared.instruction.BinaryOperator.TheVariants.{Add, Subtract, Multiply, Divide, Modulo, Less, Same}
use Rattle.df_nmach.specs.declared.instruction.Instruction.{Instruction}
use Rattle.df_nmach.specs.declared.instruction.Instruction.TheVariants as i
use Rattle.df_nmach.specs.declared.code.Shape.TheVariants as shapes
use Rattle.df_nmach.specs.Value.{Value, Number, Truth, Char}
use Rattle.df_nmach.specs.State.{Code}
use Rattle.df_nmach.specs.Step.{Stepped, Fault, unary, binary}
use Rattle.df_nmach.specs.Run.{and_then, machine_run, start_of}

-- a code of one method with two parameters and one more local
abbrev code_of : List Instruction → Code
code_of instructions = record {
  methods = record { name = codes "m"; parameters = 2; results = 1; locals = 1; instructions = instructions } ∷ [];
  shapes = shapes.Number ∷ shapes.Truth ∷ shapes.Char ∷ shapes.Text ∷ [];
}

-- so many steps of the method from 5 and 7
abbrev after : List Instruction → ℕ → Stepped
after instructions k = and_then (start_of (code_of instructions) 0 [] (Number (pos 5) ∷ Number (pos 7) ∷ [])) (machine_run (code_of instructions) k)

-- ---- what is not there

no_instruction : after [] 1 ≡ Fault
no_instruction = refl

no_local_to_get : after (i.Get 3 ∷ []) 1 ≡ Fault
no_local_to_get = refl

no_local_to_set : after (i.Number (pos 0) ∷ i.Set 3 ∷ []) 2 ≡ Fault
no_local_to_set = refl

nothing_to_set : after (i.Set 0 ∷ []) 1 ≡ Fault
nothing_to_set = refl

nothing_to_drop : after (i.Drop ∷ []) 1 ≡ Fault
nothing_to_drop = refl

no_operand : after (i.Unary Not ∷ []) 1 ≡ Fault
no_operand = refl

one_operand : after (i.Truth true ∷ i.Binary Same ∷ []) 2 ≡ Fault
one_operand = refl

no_place : after (i.Jump 1 ∷ []) 1 ≡ Fault
no_place = refl

no_place_unless : after (i.Truth true ∷ i.Unless 2 ∷ []) 2 ≡ Fault
no_place_unless = refl

no_result : after (i.Return 1 ∷ []) 1 ≡ Fault
no_result = refl

no_element : after (i.Sequence 1 ∷ []) 1 ≡ Fault
no_element = refl

nothing_to_print : after (i.Print 0 ∷ []) 1 ≡ Fault
nothing_to_print = refl

no_method : after (i.Call 1 ∷ []) 1 ≡ Fault
no_method = refl

too_few_arguments : after (i.Number (pos 0) ∷ i.Call 0 ∷ []) 2 ≡ Fault
too_few_arguments = refl

no_shape : after (i.Char 97 ∷ i.Print 4 ∷ []) 2 ≡ Fault
no_shape = refl

-- ---- another kind

number_for_a_truth : after (i.Number (pos 0) ∷ i.Unless 0 ∷ []) 2 ≡ Fault
number_for_a_truth = refl

char_for_a_number : after (i.Char 97 ∷ i.Print 0 ∷ []) 2 ≡ Fault
char_for_a_number = refl

number_in_a_text : after (i.Number (pos 97) ∷ i.Sequence 1 ∷ []) 2 ≡ Fault
number_in_a_text = refl

not_a_number : unary Not (Number (pos 0)) ≡ None
not_a_number = refl

char_below_a_number : binary Less (Char 0) (Number (pos 1)) ≡ None
char_below_a_number = refl

truths_have_no_order : binary Less (Truth true) (Truth true) ≡ None
truths_have_no_order = refl

-- ---- out of range

abbrev digit : Range
digit = record { low = negsuc 8; high = pos 9 }

-- all numbers of 128 bits
abbrev all : Range
all = record { low = negsuc 170141183460469231731687303715884105727; high = pos 170141183460469231731687303715884105727 }

above : binary (Add digit) (Number (pos 5)) (Number (pos 5)) ≡ None
above = refl

below : binary (Add digit) (Number (negsuc 4)) (Number (negsuc 4)) ≡ None
below = refl

above_all : binary (Add all) (Number (pos 170141183460469231731687303715884105727)) (Number (pos 1)) ≡ None
above_all = refl

below_all : binary (Add all) (Number (negsuc 170141183460469231731687303715884105727)) (Number (negsuc 0)) ≡ None
below_all = refl

difference_below : binary (Subtract digit) (Number (negsuc 3)) (Number (pos 6)) ≡ None
difference_below = refl

difference_below_all : binary (Subtract all) (Number (negsuc 170141183460469231731687303715884105727)) (Number (pos 1)) ≡ None
difference_below_all = refl

difference_above_all : binary (Subtract all) (Number (pos 0)) (Number (negsuc 170141183460469231731687303715884105727)) ≡ None
difference_above_all = refl

empty_range : binary (Add (record { low = pos 1; high = pos 0 })) (Number (pos 0)) (Number (pos 0)) ≡ None
empty_range = refl

negation_above : unary (Negate digit) (Number (pos 10)) ≡ None
negation_above = refl

negation_above_all : unary (Negate all) (Number (negsuc 170141183460469231731687303715884105727)) ≡ None
negation_above_all = refl

product_above : binary (Multiply digit) (Number (pos 4)) (Number (pos 3)) ≡ None
product_above = refl

product_above_all : binary (Multiply all) (Number (pos 170141183460469231731687303715884105727)) (Number (pos 2)) ≡ None
product_above_all = refl

-- the least number has no opposite, and its quotient by -1 is that
quotient_above_all : binary (Divide all) (Number (negsuc 170141183460469231731687303715884105727)) (Number (negsuc 0)) ≡ None
quotient_above_all = refl

quotient_by_nothing : binary (Divide digit) (Number (pos 5)) (Number (pos 0)) ≡ None
quotient_by_nothing = refl

remainder_by_nothing : binary (Modulo digit) (Number (pos 5)) (Number (pos 0)) ≡ None
remainder_by_nothing = refl

unfit : unary (Fit digit) (Number (pos 10)) ≡ None
unfit = refl

no_character : unary Character (Number (pos 128)) ≡ None
no_character = refl

no_character_below : unary Character (Number (negsuc 0)) ≡ None
no_character_below = refl
