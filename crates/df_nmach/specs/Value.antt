-- Values of the machine, when two are equal, and the text of one by a shape. No value holds another one.
use Rattle.std.specs.Prelude.{ℕ, ℤ, Bool, true, false, not, nat_eq, List, [], ◌∷◌, Option, Some, None, codes}
use Rattle.std.specs.Ordering.{int_eq}
use Rattle.std.specs.Str.{bytes_eq}
use Rattle.std.specs.Fmt.{signed_decimal}
use Rattle.df_nmach.specs.declared.code.Shape.{Shape}
use Rattle.df_nmach.specs.declared.code.Shape.TheVariants as shapes

-- a text is a sequence of characters
pub data Value : Type 0 where
  Number : ℤ → Value
  Truth : Bool → Value
  Char : ℕ → Value
  Null : Value
  Reference : ℕ → Value
  Text : List ℕ → Value

abbrev pub same_truth : Bool → Bool → Bool
same_truth true b = b
same_truth false b = not b

-- equality: values of two kinds differ
abbrev pub same : Value → Value → Bool
same (Number a) (Number b) = int_eq a b
same (Truth a) (Truth b) = same_truth a b
same (Char a) (Char b) = nat_eq a b
same Null Null = true
same (Reference a) (Reference b) = nat_eq a b
same (Text a) (Text b) = bytes_eq a b
same v w = false

-- whether a value is a text, so that another one like it takes memory
abbrev pub is_text : Value → Bool
is_text (Text a) = true
is_text v = false

-- the word of a truth
abbrev pub truth_text : Bool → List ℕ
truth_text true = codes "true"
truth_text false = codes "false"

-- a number in decimal, a truth by its word, a character or a text as its characters; none for another kind
abbrev pub text_of : Shape → Value → Option (List ℕ)
text_of shapes.Number (Number n) = Some (signed_decimal n)
text_of shapes.Truth (Truth b) = Some (truth_text b)
text_of shapes.Char (Char c) = Some (c ∷ [])
text_of shapes.Text (Text cs) = Some cs
text_of shape v = None
