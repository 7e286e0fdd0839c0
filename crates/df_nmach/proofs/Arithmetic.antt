-- Results of operators, computed: all signs, and both ends of 128 bits.
use Rattle.std.proofs.Common.{◌≡◌, ℤ, pos, negsuc, true, false, Option, Some, None, refl}
use Rattle.df_nmach.specs.declared.instruction.Range.{Range}
use Rattle.df_nmach.specs.declared.instruction.UnaryOperator.TheVariants.{Negate, Fit, Not, Code, Character}
use Rattle.df_nmach.specs.declared.instruction.BinaryOperator.{BinaryOperator}
use Rattle.df_nmach.specs.declared.instruction.BinaryOperator.TheVariants.{Add, Subtract, Multiply, Divide, Modulo, Less, AtMost, Same}
use Rattle.df_nmach.specs.Value.{Value, Number, Truth, Char, Null}
use Rattle.df_nmach.specs.Step.{unary, binary}

abbrev range : ℤ → ℤ → Range
range low high = record { low = low; high = high }

abbrev most : ℤ
most = pos 170141183460469231731687303715884105727

abbrev least : ℤ
least = negsuc 170141183460469231731687303715884105727

abbrev whole : Range
whole = range least most

-- -5 to 9
abbrev few : Range
few = range (negsuc 4) (pos 9)

-- the result of two numbers
abbrev of : BinaryOperator → ℤ → ℤ → Option Value
of operator a b = binary operator (Number a) (Number b)

abbrev is : ℤ → Option Value
is n = Some (Number n)

-- 7 and 2 in all signs
pub quotient : of (Divide whole) (pos 7) (pos 2) ≡ is (pos 3)
quotient = refl

pub remainder : of (Modulo whole) (pos 7) (pos 2) ≡ is (pos 1)
remainder = refl

pub negative_quotient : of (Divide whole) (negsuc 6) (pos 2) ≡ is (negsuc 3)
negative_quotient = refl

pub negative_remainder : of (Modulo whole) (negsuc 6) (pos 2) ≡ is (pos 1)
negative_remainder = refl

pub quotient_by_negative : of (Divide whole) (pos 7) (negsuc 1) ≡ is (negsuc 2)
quotient_by_negative = refl

pub remainder_by_negative : of (Modulo whole) (pos 7) (negsuc 1) ≡ is (pos 1)
remainder_by_negative = refl

pub quotient_of_negatives : of (Divide whole) (negsuc 6) (negsuc 1) ≡ is (pos 4)
quotient_of_negatives = refl

pub remainder_of_negatives : of (Modulo whole) (negsuc 6) (negsuc 1) ≡ is (pos 1)
remainder_of_negatives = refl

-- without a remainder
pub even_quotient : of (Divide whole) (negsuc 7) (pos 2) ≡ is (negsuc 3)
even_quotient = refl

pub even_remainder : of (Modulo whole) (negsuc 7) (negsuc 1) ≡ is (pos 0)
even_remainder = refl

pub by_zero : of (Divide whole) (pos 7) (pos 0) ≡ None
by_zero = refl

pub remainder_by_zero : of (Modulo whole) (negsuc 6) (pos 0) ≡ None
remainder_by_zero = refl

pub zero_by : of (Divide whole) (pos 0) (negsuc 6) ≡ is (pos 0)
zero_by = refl

-- at the ends
pub least_by_minus_one : of (Divide whole) least (negsuc 0) ≡ None
least_by_minus_one = refl

pub least_remainder_by_minus_one : of (Modulo whole) least (negsuc 0) ≡ is (pos 0)
least_remainder_by_minus_one = refl

pub least_by_one : of (Divide whole) least (pos 1) ≡ is least
least_by_one = refl

pub least_by_two : of (Divide whole) least (pos 2) ≡ is (negsuc 85070591730234615865843651857942052863)
least_by_two = refl

pub least_by_minus_two : of (Divide whole) least (negsuc 1) ≡ is (pos 85070591730234615865843651857942052864)
least_by_minus_two = refl

pub most_by_minus_one : of (Divide whole) most (negsuc 0) ≡ is (negsuc 170141183460469231731687303715884105726)
most_by_minus_one = refl

pub most_by_two : of (Divide whole) most (pos 2) ≡ is (pos 85070591730234615865843651857942052863)
most_by_two = refl

pub most_remainder_by_two : of (Modulo whole) most (pos 2) ≡ is (pos 1)
most_remainder_by_two = refl

pub most_by_minus_two : of (Divide whole) most (negsuc 1) ≡ is (negsuc 85070591730234615865843651857942052862)
most_by_minus_two = refl

pub most_remainder_by_minus_two : of (Modulo whole) most (negsuc 1) ≡ is (pos 1)
most_remainder_by_minus_two = refl

pub least_by_most : of (Divide whole) least most ≡ is (negsuc 1)
least_by_most = refl

pub least_remainder_by_most : of (Modulo whole) least most ≡ is (pos 170141183460469231731687303715884105726)
least_remainder_by_most = refl

pub most_by_least : of (Divide whole) most least ≡ is (pos 0)
most_by_least = refl

pub most_remainder_by_least : of (Modulo whole) most least ≡ is most
most_remainder_by_least = refl

pub minus_one_by_least : of (Divide whole) (negsuc 0) least ≡ is (pos 1)
minus_one_by_least = refl

pub minus_one_remainder_by_least : of (Modulo whole) (negsuc 0) least ≡ is most
minus_one_remainder_by_least = refl

pub minus_one_by_most : of (Divide whole) (negsuc 0) most ≡ is (negsuc 0)
minus_one_by_most = refl

pub minus_one_remainder_by_most : of (Modulo whole) (negsuc 0) most ≡ is (pos 170141183460469231731687303715884105726)
minus_one_remainder_by_most = refl

-- in a range
pub quotient_below : of (Divide few) (negsuc 11) (pos 2) ≡ None
quotient_below = refl

pub quotient_at_low : of (Divide few) (negsuc 9) (pos 2) ≡ is (negsuc 4)
quotient_at_low = refl

pub remainder_above : of (Modulo few) (pos 21) (pos 11) ≡ None
remainder_above = refl

pub sum_at_high : of (Add few) (pos 4) (pos 5) ≡ is (pos 9)
sum_at_high = refl

pub sum_above : of (Add few) (pos 5) (pos 5) ≡ None
sum_above = refl

pub sum_of_most : of (Add whole) most (pos 1) ≡ None
sum_of_most = refl

pub difference_at_low : of (Subtract few) (pos 0) (pos 5) ≡ is (negsuc 4)
difference_at_low = refl

pub difference_below : of (Subtract few) (pos 0) (pos 6) ≡ None
difference_below = refl

pub difference_of_least : of (Subtract whole) least (pos 1) ≡ None
difference_of_least = refl

pub product : of (Multiply few) (negsuc 2) (negsuc 2) ≡ is (pos 9)
product = refl

pub product_at_low : of (Multiply few) (negsuc 0) (pos 5) ≡ is (negsuc 4)
product_at_low = refl

pub product_below : of (Multiply few) (negsuc 1) (pos 3) ≡ None
product_below = refl

pub product_past_128_bits : of (Multiply whole) most most ≡ None
product_past_128_bits = refl

pub least_by_minus_one_product : of (Multiply whole) least (negsuc 0) ≡ None
least_by_minus_one_product = refl

pub other_kinds : binary (Multiply whole) (Number (pos 1)) (Char 1) ≡ None
other_kinds = refl

pub negated_most : unary (Negate whole) (Number most) ≡ is (negsuc 170141183460469231731687303715884105726)
negated_most = refl

pub negated_least : unary (Negate whole) (Number least) ≡ None
negated_least = refl

pub negated_below : unary (Negate few) (Number (pos 6)) ≡ None
negated_below = refl

pub fits_at_low : unary (Fit few) (Number (negsuc 4)) ≡ is (negsuc 4)
fits_at_low = refl

pub fits_below : unary (Fit few) (Number (negsuc 5)) ≡ None
fits_below = refl

pub fits_at_high : unary (Fit few) (Number (pos 9)) ≡ is (pos 9)
fits_at_high = refl

pub fits_above : unary (Fit few) (Number (pos 10)) ≡ None
fits_above = refl

pub fits_no_truth : unary (Fit few) (Truth true) ≡ None
fits_no_truth = refl

-- characters
pub last_code : unary Code (Char 127) ≡ is (pos 127)
last_code = refl

pub no_code : unary Code (Number (pos 65)) ≡ None
no_code = refl

pub first_character : unary Character (Number (pos 0)) ≡ Some (Char 0)
first_character = refl

pub last_character : unary Character (Number (pos 127)) ≡ Some (Char 127)
last_character = refl

pub no_character : unary Character (Number (pos 128)) ≡ None
no_character = refl

pub no_negative_character : unary Character (Number (negsuc 0)) ≡ None
no_negative_character = refl

pub not_true : unary Not (Truth true) ≡ Some (Truth false)
not_true = refl

pub not_a_number : unary Not (Number (pos 0)) ≡ None
not_a_number = refl

-- comparisons
pub less : of Less least most ≡ Some (Truth true)
less = refl

pub less_itself : of Less (negsuc 0) (negsuc 0) ≡ Some (Truth false)
less_itself = refl

pub at_most_itself : of AtMost (negsuc 0) (negsuc 0) ≡ Some (Truth true)
at_most_itself = refl

pub characters_less : binary Less (Char 97) (Char 98) ≡ Some (Truth true)
characters_less = refl

pub characters_at_most : binary AtMost (Char 98) (Char 97) ≡ Some (Truth false)
characters_at_most = refl

pub no_order_of_truths : binary Less (Truth false) (Truth true) ≡ None
no_order_of_truths = refl

pub no_order_of_kinds : binary AtMost (Number (pos 97)) (Char 97) ≡ None
no_order_of_kinds = refl

pub same_truths : binary Same (Truth false) (Truth false) ≡ Some (Truth true)
same_truths = refl

pub kinds_differ : binary Same (Number (pos 97)) (Char 97) ≡ Some (Truth false)
kinds_differ = refl

pub null_is_itself : binary Same Null Null ≡ Some (Truth true)
null_is_itself = refl
