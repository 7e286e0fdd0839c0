-- The steps, computed on small methods.
use Rattle.std.proofs.Common.{◌≡◌, ℕ, ℤ, pos, negsuc, Bool, true, false, List, [], ◌∷◌, codes, refl}
use Rattle.std.specs.Fmt.{digits}
use Rattle.df_nmach.specs.declared.instruction.Range.{Range}
use Rattle.df_nmach.specs.declared.instruction.BinaryOperator.TheVariants.{Add, Subtract, Less, Same}
use Rattle.df_nmach.specs.declared.instruction.Instruction.{Instruction}
use Rattle.df_nmach.specs.declared.instruction.Instruction.TheVariants as i
use Rattle.df_nmach.specs.declared.code.Shape.TheVariants as shapes
use Rattle.df_nmach.specs.Name.{is_name}
use Rattle.df_nmach.specs.Value.{Value, Number, Truth, Char}
use Rattle.df_nmach.specs.State.{Method, Code}
use Rattle.df_nmach.specs.Step.{Stepped, On, Ended, Fault}
use Rattle.df_nmach.specs.Run.{and_then, machine_run, start_of}

abbrev range : ℤ → ℤ → Range
range low high = record { low = low; high = high }

-- one method of two parameters and one more local
abbrev code_of : List Instruction → Code
code_of instructions = record {
  methods = record { name = codes "m"; parameters = 2; results = 1; locals = 1; instructions = instructions } ∷ [];
  shapes = shapes.Number ∷ shapes.Text ∷ [];
}

-- so many steps of the method from 5 and 7
abbrev after : List Instruction → ℕ → Stepped
after instructions k = and_then (start_of (code_of instructions) 0 [] (Number (pos 5) ∷ Number (pos 7) ∷ [])) (machine_run (code_of instructions) k)

-- ends with this result and text
abbrev ends : Value → List ℕ → Stepped
ends result text = Ended (record { results = result ∷ []; heap = []; text = text })

-- the left operand is below the right one, and printed before the end
abbrev difference : ℤ → ℤ → List Instruction
difference low high = i.Get 0 ∷ i.Get 1 ∷ i.Binary (Subtract (range low high)) ∷ i.Set 2 ∷ i.Get 2 ∷ i.Print 0 ∷ i.Get 2 ∷ i.Return 1 ∷ []

pub five_less_seven : after (difference (negsuc 1) (pos 9)) 8 ≡ ends (Number (negsuc 1)) (codes "-2")
unfolding digits
five_less_seven = refl

pub stays_ended : after (difference (negsuc 1) (pos 9)) 20 ≡ ends (Number (negsuc 1)) (codes "-2")
unfolding digits
stays_ended = refl

pub below_the_range : after (difference (pos 0) (pos 9)) 8 ≡ Fault
below_the_range = refl

pub above_the_range : after (difference (negsuc 9) (negsuc 2)) 3 ≡ Fault
above_the_range = refl

-- the local past the parameters begins as 0
pub begins_as_0 : after (i.Get 2 ∷ i.Return 1 ∷ []) 2 ≡ ends (Number (pos 0)) []
begins_as_0 = refl

pub past_the_locals : after (i.Get 3 ∷ i.Return 1 ∷ []) 1 ≡ Fault
past_the_locals = refl

-- jumps on false alone
pub jumps : after (i.Truth false ∷ i.Unless 4 ∷ i.Char 97 ∷ i.Return 1 ∷ i.Char 98 ∷ i.Return 1 ∷ []) 4 ≡ ends (Char 98) []
jumps = refl

pub stays : after (i.Truth true ∷ i.Unless 4 ∷ i.Char 97 ∷ i.Return 1 ∷ i.Char 98 ∷ i.Return 1 ∷ []) 4 ≡ ends (Char 97) []
stays = refl

pub jumps_too_far : after (i.Jump 2 ∷ i.Return 0 ∷ []) 1 ≡ Fault
jumps_too_far = refl

pub runs_off : after (i.Drop ∷ []) 1 ≡ Fault
runs_off = refl

-- elements and results stand in the order in which they were pushed
pub a_text : after (i.Char 97 ∷ i.Char 98 ∷ i.Sequence 2 ∷ i.Print 1 ∷ i.Get 0 ∷ i.Get 1 ∷ i.Return 2 ∷ []) 7
    ≡ Ended (record { results = Number (pos 5) ∷ Number (pos 7) ∷ []; heap = []; text = codes "ab" })
a_text = refl

pub no_text : after (i.Get 0 ∷ i.Sequence 1 ∷ i.Print 1 ∷ []) 3 ≡ Fault
no_text = refl

pub other_kinds : after (i.Get 0 ∷ i.Char 97 ∷ i.Binary Less ∷ []) 3 ≡ Fault
other_kinds = refl

pub other_kinds_differ : after (i.Get 0 ∷ i.Char 5 ∷ i.Binary Same ∷ i.Return 1 ∷ []) 4 ≡ ends (Truth false) []
other_kinds_differ = refl

pub no_such_method : start_of (code_of []) 1 [] (Number (pos 5) ∷ Number (pos 7) ∷ []) ≡ Fault
no_such_method = refl

pub too_few_arguments : start_of (code_of []) 0 [] [] ≡ Fault
too_few_arguments = refl

-- Calls. A method of so many parameters, results and further locals.
abbrev method : ℕ → ℕ → ℕ → List Instruction → Method
method parameters results locals instructions = record { name = codes "m"; parameters = parameters; results = results; locals = locals; instructions = instructions }

abbrev code : List Method → Code
code methods = record { methods = methods; shapes = shapes.Number ∷ shapes.Truth ∷ shapes.Text ∷ [] }

-- so many steps of the first method, from no arguments
abbrev running : List Method → ℕ → Stepped
running methods k = and_then (start_of (code methods) 0 [] []) (machine_run (code methods) k)

-- The second method takes three numbers and returns them in another order; the caller has one operand below.
abbrev turning : List Method
turning =
    method 0 4 0 (i.Number (pos 1) ∷ i.Number (pos 2) ∷ i.Number (pos 3) ∷ i.Number (pos 4) ∷ i.Call 1 ∷ i.Return 4 ∷ [])
    ∷ method 3 3 0 (i.Get 2 ∷ i.Get 0 ∷ i.Get 1 ∷ i.Return 3 ∷ [])
    ∷ []

pub three_results : running turning 10 ≡ Ended (record { results = Number (pos 1) ∷ Number (pos 4) ∷ Number (pos 2) ∷ Number (pos 3) ∷ []; heap = []; text = [] })
three_results = refl

-- a callee sees neither the locals nor the operands of its caller, and its own locals begin as 0
pub own_locals : running (method 0 1 1 (i.Number (pos 5) ∷ i.Set 0 ∷ i.Call 1 ∷ i.Return 1 ∷ []) ∷ method 0 1 1 (i.Get 0 ∷ i.Return 1 ∷ []) ∷ []) 6 ≡ ends (Number (pos 0)) []
own_locals = refl

pub own_operands : running (method 0 1 0 (i.Number (pos 5) ∷ i.Call 1 ∷ i.Return 1 ∷ []) ∷ method 0 0 0 (i.Drop ∷ i.Return 0 ∷ []) ∷ []) 3 ≡ Fault
own_operands = refl

-- a caller's locals stay
pub locals_stay : running (method 0 1 1 (i.Number (pos 5) ∷ i.Set 0 ∷ i.Call 1 ∷ i.Get 0 ∷ i.Return 1 ∷ []) ∷ method 0 0 1 (i.Number (pos 7) ∷ i.Set 0 ∷ i.Return 0 ∷ []) ∷ []) 8 ≡ ends (Number (pos 5)) []
locals_stay = refl

pub too_few_parameters : running (method 0 0 0 (i.Number (pos 5) ∷ i.Call 1 ∷ []) ∷ method 2 0 0 [] ∷ []) 2 ≡ Fault
too_few_parameters = refl

pub no_method_to_call : running (method 0 0 0 (i.Call 1 ∷ []) ∷ []) 1 ≡ Fault
no_method_to_call = refl

pub too_few_results : running (method 0 0 0 (i.Return 1 ∷ []) ∷ []) 1 ≡ Fault
too_few_results = refl

-- a callee without instructions
pub nothing_to_do : running (method 0 0 0 (i.Call 1 ∷ []) ∷ method 0 0 0 [] ∷ []) 2 ≡ Fault
nothing_to_do = refl

-- a number of 32 bits
abbrev bits : Range
bits = range (negsuc 2147483647) (pos 2147483647)

-- Whether a number is even, by the method of this number, which says whether the number before is the other:
-- local 1 is the result.
abbrev parity : Bool → ℕ → Method
parity at_zero other = method 1 1 1 (
    i.Get 0 ∷ i.Number (pos 0) ∷ i.Binary Same ∷ i.Unless 7
    ∷ i.Truth at_zero ∷ i.Set 1 ∷ i.Jump 12
    ∷ i.Get 0 ∷ i.Number (pos 1) ∷ i.Binary (Subtract bits) ∷ i.Call other ∷ i.Set 1
    ∷ i.Get 1 ∷ i.Return 1 ∷ [])

-- mutual recursion: whether 7 is even is printed
abbrev evenness : List Method
evenness =
    method 0 0 1 (i.Number (pos 7) ∷ i.Call 1 ∷ i.Set 0 ∷ i.Get 0 ∷ i.Print 1 ∷ i.Char 10 ∷ i.Sequence 1 ∷ i.Print 2 ∷ i.Return 0 ∷ [])
    ∷ parity true 2
    ∷ parity false 1
    ∷ []

pub seven_is_odd : running evenness 95 ≡ Ended (record { results = []; heap = []; text = codes "false\n" })
seven_is_odd = refl

-- a loop prints 0 to 2
abbrev counting : List Method
counting =
    method 0 0 1 (
    i.Number (pos 0) ∷ i.Set 0
    ∷ i.Get 0 ∷ i.Number (pos 3) ∷ i.Binary Less ∷ i.Unless 13
    ∷ i.Get 0 ∷ i.Print 0 ∷ i.Get 0 ∷ i.Number (pos 1) ∷ i.Binary (Add bits) ∷ i.Set 0 ∷ i.Jump 2
    ∷ i.Return 0 ∷ [])
    ∷ []

pub counts : running counting 40 ≡ Ended (record { results = []; heap = []; text = codes "012" })
unfolding digits
counts = refl

-- the step before the last one goes on
pub counts_still : running counting 39 ≡ On (record { heap = []; frames = record { method = 0; next = 13; locals = Number (pos 3) ∷ []; operands = [] } ∷ []; text = codes "012" })
unfolding digits
counts_still = refl

-- names: the wildcard is none, and neither is a text with an empty part
pub a_name : is_name (codes "M_1.C'._x?") ≡ true
a_name = refl

pub no_wildcard : is_name (codes "C._") ≡ false
no_wildcard = refl

pub no_empty_part : is_name (codes "C.") ≡ false
no_empty_part = refl
