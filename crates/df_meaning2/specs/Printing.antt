-- The text that prints a value, by its type.
use Rattle.std.specs.Prelude.{ℕ, Bool, true, false, ◌==◌, List, [], ◌∷◌, ◌++◌, codes, slice_get, if◌then◌else◌}
use Rattle.std.specs.Option.{option_map_or}
use Rattle.std.specs.Fmt.{signed_decimal}
use Rattle.df_types.specs.Ty.{Ty, Char, Seq, Data}
use Rattle.df_types.specs.Program.{Program, Constructor, constructors_at, parts_of}
use Rattle.df_meaning2.specs.Value.{Value, Truth, Character, Number, Made, Sequence, Values, no_value, value}

abbrev pub truth_text : Bool → List ℕ
truth_text true = codes "true"
truth_text false = codes "false"

-- what stands behind the last dot of a qualified text
abbrev pub own_name : List ℕ → List ℕ → List ℕ
own_name so_far [] = so_far
own_name so_far (c ∷ cs) = if c == 46 then own_name [] cs else own_name (so_far ++ c ∷ []) cs

abbrev pub constructor_text : Program → ℕ → ℕ → List ℕ
constructor_text p d c = option_map_or (λ (x : Constructor). own_name [] x.declared.text) (slice_get (constructors_at p d) c) []

-- a sequence of characters is its characters
abbrev pub is_character_type : Ty → Bool
is_character_type Char = true
is_character_type t = false

abbrev pub bracketed : Bool → List ℕ → List ℕ
bracketed is_text text = if is_text then text else codes "[" ++ text ++ codes "]"

-- Numbers in decimal, truths by their words, characters and strings as they are, other sequences in brackets, and constructors by their
-- names with their parts in parentheses. What has no text is never printed.
abbrev mutual
  pub text_of : Program → Ty → Value → List ℕ
  text_of p (Seq t) (Sequence vs) = bracketed (is_character_type t) (texts_of p t (is_character_type t) vs)
  text_of p (Data d ts) (Made c vs) = constructor_text p d c ++ parts_text p (parts_of p (Data d ts) c) vs
  text_of p t (Truth b) = truth_text b
  text_of p t (Character c) = c ∷ []
  text_of p t (Number n) = signed_decimal n
  text_of p t v = []

  pub texts_of : Program → Ty → Bool → Values → List ℕ
  texts_of p t is_text no_value = []
  texts_of p t is_text (value v vs) = text_of p t v ++ more_texts p t is_text vs

  -- behind the first
  pub more_texts : Program → Ty → Bool → Values → List ℕ
  more_texts p t is_text no_value = []
  more_texts p t is_text (value v vs) = (if is_text then [] else codes ", ") ++ text_of p t v ++ more_texts p t is_text vs

  pub parts_text : Program → List Ty → Values → List ℕ
  parts_text p ts no_value = []
  parts_text p [] (value v vs) = []
  parts_text p (t ∷ ts) (value v vs) = codes "(" ++ text_of p t v ++ more_parts p ts vs

  pub more_parts : Program → List Ty → Values → List ℕ
  more_parts p ts no_value = codes ")"
  more_parts p [] (value v vs) = codes ")"
  more_parts p (t ∷ ts) (value v vs) = codes ", " ++ text_of p t v ++ more_parts p ts vs
