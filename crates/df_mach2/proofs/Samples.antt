-- The steps, computed on small methods.
use Rattle.std.proofs.Common.{◌≡◌, ℕ, ℤ, pos, negsuc, Bool, true, false, List, [], ◌∷◌, ◌++◌, Some, None, codes, refl}
use Rattle.std.specs.Fmt.{digits}
use Rattle.df_mach2.specs.declared.op.Range.{Range}
use Rattle.df_mach2.specs.declared.op.Op.TheVariants as op
use Rattle.df_mach2.specs.declared.instruction.Instruction.{Instruction}
use Rattle.df_mach2.specs.declared.instruction.Instruction.TheVariants as i
use Rattle.df_mach2.specs.Name.{is_name, is_identifier}
use Rattle.df_mach2.specs.Value.{Value, Number, Truth, Char, Null, Data, Sequence, values_of}
use Rattle.df_mach2.specs.Shape.{Shape, NumberShape, TruthShape, CharShape, TextShape, ListShape, DataShape}
use Rattle.df_mach2.specs.Text.{text_of}
use Rattle.df_mach2.specs.State.{Method, Code}
use Rattle.df_mach2.specs.Step.{Stepped, On, Ended, Fault}
use Rattle.df_mach2.specs.Run.{and_then, machine_run, start_of}

abbrev range : ℤ → ℤ → Range
range low high = record { low = low; high = high }

-- shapes: a number, a text, a list of numbers, Nil and Cons of a number and a list, a list of lists
abbrev shapes : List Shape
shapes =
    NumberShape ∷ TextShape ∷ ListShape 0
    ∷ DataShape (record { name = codes "Nil"; parts = [] } ∷ record { name = codes "Cons"; parts = 0 ∷ 3 ∷ [] } ∷ [])
    ∷ ListShape 2 ∷ CharShape ∷ []

-- one method of two parameters and one more local
abbrev code_of : List Instruction → Code
code_of instructions = record {
  methods = record { name = codes "m"; parameters = 2; results = 1; locals = 1; instructions = instructions } ∷ [];
  shapes = shapes;
}

-- so many steps of the method from 5 and 7
abbrev after : List Instruction → ℕ → Stepped
after instructions k = and_then (start_of (code_of instructions) 0 [] (Number (pos 5) ∷ Number (pos 7) ∷ [])) (machine_run (code_of instructions) k)

-- ends with this result and text
abbrev ends : Value → List ℕ → Stepped
ends result text = Ended (record { results = result ∷ []; heap = []; text = text })

-- the left operand less the right one, printed before the end
abbrev less_by : ℤ → ℤ → List Instruction
less_by low high = i.Get 0 ∷ i.Get 1 ∷ i.Strict (op.Subtract (range low high)) ∷ i.Set 2 ∷ i.Get 2 ∷ i.Print 0 ∷ i.Get 2 ∷ i.Return 1 ∷ []

pub five_less_seven : after (less_by (negsuc 1) (pos 9)) 8 ≡ ends (Number (negsuc 1)) (codes "-2")
unfolding digits
five_less_seven = refl

pub stays_ended : after (less_by (negsuc 1) (pos 9)) 20 ≡ ends (Number (negsuc 1)) (codes "-2")
unfolding digits
stays_ended = refl

pub below_the_range : after (less_by (pos 0) (pos 9)) 8 ≡ Fault
below_the_range = refl

-- the quotient is rounded down, so that what remains is not negative
pub divides_toward_euclid : after (i.Strict (op.Number (negsuc 6)) ∷ i.Strict (op.Number (pos 2)) ∷ i.Strict (op.Divide (range (negsuc 9) (pos 9))) ∷ i.Return 1 ∷ []) 4 ≡ ends (Number (negsuc 3)) []
divides_toward_euclid = refl

pub no_quotient_by_zero : after (i.Get 0 ∷ i.Strict (op.Number (pos 0)) ∷ i.Strict (op.Divide (range (negsuc 9) (pos 9))) ∷ i.Return 1 ∷ []) 3 ≡ Fault
no_quotient_by_zero = refl

-- the local past the parameters begins as 0
pub begins_as_0 : after (i.Get 2 ∷ i.Return 1 ∷ []) 2 ≡ ends (Number (pos 0)) []
begins_as_0 = refl

pub past_the_locals : after (i.Get 3 ∷ i.Return 1 ∷ []) 1 ≡ Fault
past_the_locals = refl

-- jumps on false alone
pub jumps : after (i.Strict (op.Truth false) ∷ i.Unless 4 ∷ i.Strict (op.Char 97) ∷ i.Return 1 ∷ i.Strict (op.Char 98) ∷ i.Return 1 ∷ []) 4 ≡ ends (Char 98) []
jumps = refl

-- sequences: joined, cut, read
abbrev three : List Instruction
three = i.Get 0 ∷ i.Get 1 ∷ i.Strict (op.Sequence 2) ∷ i.Get 0 ∷ i.Strict (op.Sequence 1) ∷ i.Strict op.Join ∷ []

pub joins : after (three ++ (i.Strict (op.Number (pos 1)) ∷ i.Strict (op.Number (pos 3)) ∷ i.Strict op.Slice ∷ i.Return 1 ∷ [])) 10 ≡ ends (Sequence (values_of (Number (pos 7) ∷ Number (pos 5) ∷ []))) []
joins = refl

pub past_the_end : after (three ++ (i.Strict (op.Number (pos 3)) ∷ i.Strict op.At ∷ i.Return 1 ∷ [])) 9 ≡ Fault
past_the_end = refl

-- constructors are printed by their names
pub prints_data :
    after (i.Get 0 ∷ i.Strict (op.Construct 0 0) ∷ i.Strict (op.Construct 1 2) ∷ i.Print 3 ∷ i.Strict op.Null ∷ i.Return 1 ∷ []) 6 ≡ ends Null (codes "Cons(5, Nil)")
unfolding digits
prints_data = refl

pub prints_lists : text_of shapes (Sequence (values_of (Sequence (values_of (Number (pos 1) ∷ Number (pos 2) ∷ [])) ∷ Sequence (values_of []) ∷ []))) 4 ≡ Some (codes "[[1, 2], []]")
unfolding digits
prints_lists = refl

pub prints_text : text_of shapes (Sequence (values_of (Char 97 ∷ Char 98 ∷ []))) 1 ≡ Some (codes "ab")
prints_text = refl

pub prints_nothing : text_of shapes (Sequence (values_of [])) 1 ≡ Some []
prints_nothing = refl

pub of_another_form : text_of shapes (Number (pos 1)) 1 ≡ None
of_another_form = refl

pub too_few_arguments : text_of shapes (Data 1 (values_of (Number (pos 1) ∷ []))) 3 ≡ None
unfolding digits
too_few_arguments = refl

pub is_qualified : is_name (codes "C.new") ≡ true
is_qualified = refl

pub is_no_name : is_identifier (codes "C.new") ≡ false
is_no_name = refl
