-- The text of a value by a shape; none where the value is of another form.
use Rattle.std.specs.Prelude.{ℕ, ℤ, Bool, true, false, List, [], ◌∷◌, ◌++◌, Option, Some, None, slice_get, codes}
use Rattle.std.specs.Fmt.{signed_decimal}
use Rattle.df_mach2.specs.Value.{Value, Values, Number, Truth, Char, Null, Reference, Data, Sequence, no_value, value}
use Rattle.df_mach2.specs.Shape.{Shape, Constructor, NumberShape, TruthShape, CharShape, TextShape, ListShape, DataShape}

-- one text and then another, if both are there
abbrev pub then_text : Option (List ℕ) → Option (List ℕ) → Option (List ℕ)
then_text None b = None
then_text (Some a) None = None
then_text (Some a) (Some b) = Some (a ++ b)

-- goes on with what there is
abbrev pub given_text : {A : Type 0} → Option A → (A → Option (List ℕ)) → Option (List ℕ)
given_text None go = None
given_text (Some x) go = go x

-- the word of a truth
abbrev pub truth_word : Bool → List ℕ
truth_word true = codes "true"
truth_word false = codes "false"

abbrev pub number_text : ℤ → Shape → Option (List ℕ)
number_text n NumberShape = Some (signed_decimal n)
number_text n TruthShape = None
number_text n CharShape = None
number_text n TextShape = None
number_text n (ListShape s) = None
number_text n (DataShape cs) = None

abbrev pub truth_text : Bool → Shape → Option (List ℕ)
truth_text b NumberShape = None
truth_text b TruthShape = Some (truth_word b)
truth_text b CharShape = None
truth_text b TextShape = None
truth_text b (ListShape s) = None
truth_text b (DataShape cs) = None

abbrev pub char_text : ℕ → Shape → Option (List ℕ)
char_text c NumberShape = None
char_text c TruthShape = None
char_text c CharShape = Some (c ∷ [])
char_text c TextShape = None
char_text c (ListShape s) = None
char_text c (DataShape cs) = None

-- a character by itself
abbrev pub character_of : Value → Option (List ℕ)
character_of (Number n) = None
character_of (Truth b) = None
character_of (Char c) = Some (c ∷ [])
character_of Null = None
character_of (Reference r) = None
character_of (Data tag vs) = None
character_of (Sequence vs) = None

-- the characters that values are, if each of them is one
abbrev pub characters : Values → Option (List ℕ)
characters no_value = Some []
characters (value v vs) = then_text (character_of v) (characters vs)

-- the shapes of the members of a sequence, or of the arguments of a constructor
pub data Shapes : Type 0 where
  All : ℕ → Shapes
  Each : List ℕ → Shapes

-- nothing is printed where no value is left, and no shape
abbrev pub end_text : Shapes → Option (List ℕ)
end_text (All s) = Some []
end_text (Each []) = Some []
end_text (Each (s ∷ ss)) = None

-- goes on with the shape of the next value, and those behind it
abbrev pub with_next : Shapes → (ℕ → Shapes → Option (List ℕ)) → Option (List ℕ)
with_next (All s) go = go s (All s)
with_next (Each []) go = None
with_next (Each (s ∷ ss)) go = go s (Each ss)

-- what stands before a member or an argument
abbrev pub separator : Bool → List ℕ
separator true = []
separator false = codes ", "

abbrev pub between : List ℕ → Option (List ℕ) → List ℕ → Option (List ℕ)
between opening text closing = then_text (Some opening) (then_text text (Some closing))

-- a sequence, of which these are the characters, and this the text of the members by a shape
abbrev pub sequence_text : Option (List ℕ) → (ℕ → Option (List ℕ)) → Shape → Option (List ℕ)
sequence_text text members NumberShape = None
sequence_text text members TruthShape = None
sequence_text text members CharShape = None
sequence_text text members TextShape = text
sequence_text text members (ListShape s) = between (codes "[") (members s) (codes "]")
sequence_text text members (DataShape cs) = None

-- no parentheses without arguments
abbrev pub in_parentheses : List ℕ → Option (List ℕ) → Option (List ℕ)
in_parentheses [] text = text
in_parentheses (s ∷ ss) text = between (codes "(") text (codes ")")

abbrev pub constructor_text : (List ℕ → Option (List ℕ)) → Constructor → Option (List ℕ)
constructor_text arguments c = then_text (Some c.name) (in_parentheses c.parts (arguments c.parts))

-- the constructor of a number, of which this is the text of the arguments by their shapes
abbrev pub data_text : ℕ → (List ℕ → Option (List ℕ)) → Shape → Option (List ℕ)
data_text tag arguments NumberShape = None
data_text tag arguments TruthShape = None
data_text tag arguments CharShape = None
data_text tag arguments TextShape = None
data_text tag arguments (ListShape s) = None
data_text tag arguments (DataShape cs) = given_text (slice_get cs tag) (constructor_text arguments)

abbrev mutual
  -- the text by the shape of a number
  pub text_of : List Shape → Value → ℕ → Option (List ℕ)
  text_of t (Number n) s = given_text (slice_get t s) (number_text n)
  text_of t (Truth b) s = given_text (slice_get t s) (truth_text b)
  text_of t (Char c) s = given_text (slice_get t s) (char_text c)
  text_of t Null s = None
  text_of t (Reference r) s = None
  text_of t (Data tag vs) s = given_text (slice_get t s) (data_text tag (λ ss. texts t vs (Each ss) true))
  text_of t (Sequence vs) s = given_text (slice_get t s) (sequence_text (characters vs) (λ m. texts t vs (All m) true))

  -- the texts of values, with what stands between them
  pub texts : List Shape → Values → Shapes → (is_first : Bool) → Option (List ℕ)
  texts t no_value ss is_first = end_text ss
  texts t (value v vs) ss is_first = with_next ss (λ s others. then_text (Some (separator is_first)) (then_text (text_of t v s) (texts t vs others false)))
