-- Values, and the text that prints them.
use Rattle.std.specs.Prelude.{ℕ, ℤ, pos, Bool, true, false, not, ◌==◌, List, [], ◌∷◌, codes}
use Rattle.std.specs.Ordering.{int_eq}
use Rattle.std.specs.Fmt.{signed_decimal}

-- a truth, a character by its code, a whole number, or a text: a sequence of characters
pub data Value : Type 0 where
  Truth : Bool → Value
  Character : ℕ → Value
  Number : ℤ → Value
  Text : List ℕ → Value

-- the text of a truth
abbrev pub truth_text : Bool → List ℕ
truth_text true = codes "true"
truth_text false = codes "false"

-- what `print` writes: a truth by its word, a number in decimal, a character or a text as its characters
abbrev pub text_of : Value → List ℕ
text_of (Truth b) = truth_text b
text_of (Character c) = c ∷ []
text_of (Number n) = signed_decimal n
text_of (Text characters) = characters

-- the number of a value, for a character its code; 0 for what has none, of which a well-typed program asks none
abbrev pub number_of : Value → ℤ
number_of (Truth b) = pos 0
number_of (Character c) = pos c
number_of (Number n) = n
number_of (Text characters) = pos 0

-- the truth of a value; false for what is no truth
abbrev pub truth_of : Value → Bool
truth_of (Truth b) = b
truth_of (Character c) = false
truth_of (Number n) = false
truth_of (Text characters) = false

abbrev pub same_truth : Bool → Bool → Bool
same_truth true b = b
same_truth false b = not b

-- the same truth, character or number; no operator compares texts
abbrev pub same_value : Value → Value → Bool
same_value (Truth a) (Truth b) = same_truth a b
same_value (Character a) (Character b) = a == b
same_value (Number a) (Number b) = int_eq a b
same_value a b = false
