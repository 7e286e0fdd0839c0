-- An instruction is known by its words, and a shape too: they are read back.
use Rattle.std.proofs.Common.{◌≡◌, ℕ, ℤ, Bool, true, false, cond, ◌&&◌, List, [], ◌∷◌, ◌++◌, codes, Option, Some, None, refl, sym, ap, ◌∙◌}
use Rattle.std.specs.Fmt.{decimal, signed_decimal}
use Rattle.std.specs.Str.{bytes_eq}
use Rattle.std.proofs.lemmas.Bool.{and_from}
use Rattle.std.proofs.lemmas.Option.{same_Some}
use Rattle.df_nmach.specs.declared.instruction.Range.{Range}
use Rattle.df_nmach.specs.declared.instruction.UnaryOperator.{UnaryOperator}
use Rattle.df_nmach.specs.declared.instruction.UnaryOperator.TheVariants as unaries
use Rattle.df_nmach.specs.declared.instruction.BinaryOperator.{BinaryOperator}
use Rattle.df_nmach.specs.declared.instruction.BinaryOperator.TheVariants as binaries
use Rattle.df_nmach.specs.declared.instruction.Instruction.{Instruction}
use Rattle.df_nmach.specs.declared.instruction.Instruction.TheVariants as instructions
use Rattle.df_nmach.specs.declared.code.Shape.{Shape}
use Rattle.df_nmach.specs.declared.code.Shape.TheVariants as shapes
use Rattle.df_listing.specs.Listing.{instruction_words, unary_words, binary_words, range_words, shape_words, truth_word, instruction_line, shape_line}
use Rattle.df_listing.specs.Ordinary.{Fits, Counts, FittingRange, FittingUnary, FittingBinary, Fitting}
use Rattle.df_listing.proofs.Spelling.{is_word, decimal_word, signed_word, count_in, count_is, number_in, number_is}
use Rattle.df_listing.proofs.Reading.{are_words, has_word, line_read}

-- what stands at a word in a table
abbrev look_up : {A : Type 0} → List ℕ → List (List ℕ × A) → Option A
look_up w [] = None
look_up w (row ∷ rows) = cond (bytes_eq w row.0) (Some row.1) (look_up w rows)

abbrev alone : List (List ℕ × Instruction)
alone =
    (codes "drop", instructions.Drop)
    ∷ (codes "not", instructions.Unary unaries.Not)
    ∷ (codes "code", instructions.Unary unaries.Code)
    ∷ (codes "chr", instructions.Unary unaries.Character)
    ∷ (codes "less", instructions.Binary binaries.Less)
    ∷ (codes "most", instructions.Binary binaries.AtMost)
    ∷ (codes "same", instructions.Binary binaries.Same)
    ∷ []

abbrev with_word : List ℕ → List (List ℕ × Instruction)
with_word n =
    (codes "num", instructions.Number (number_in n))
    ∷ (codes "truth", instructions.Truth (bytes_eq n (codes "true")))
    ∷ (codes "char", instructions.Char (count_in n))
    ∷ (codes "get", instructions.Get (count_in n))
    ∷ (codes "set", instructions.Set (count_in n))
    ∷ (codes "jump", instructions.Jump (count_in n))
    ∷ (codes "unless", instructions.Unless (count_in n))
    ∷ (codes "call", instructions.Call (count_in n))
    ∷ (codes "ret", instructions.Return (count_in n))
    ∷ (codes "seq", instructions.Sequence (count_in n))
    ∷ (codes "print", instructions.Print (count_in n))
    ∷ []

abbrev range_in : List ℕ → List ℕ → Range
range_in low high = record { low = number_in low; high = number_in high }

abbrev with_range : Range → List (List ℕ × Instruction)
with_range r =
    (codes "neg", instructions.Unary (unaries.Negate r))
    ∷ (codes "fit", instructions.Unary (unaries.Fit r))
    ∷ (codes "add", instructions.Binary (binaries.Add r))
    ∷ (codes "sub", instructions.Binary (binaries.Subtract r))
    ∷ (codes "mul", instructions.Binary (binaries.Multiply r))
    ∷ (codes "div", instructions.Binary (binaries.Divide r))
    ∷ (codes "mod", instructions.Binary (binaries.Modulo r))
    ∷ []

-- the instruction of some words
abbrev read_back : List (List ℕ) → Option Instruction
read_back [] = None
read_back (w ∷ []) = look_up w alone
read_back (w ∷ n ∷ []) = look_up w (with_word n)
read_back (w ∷ low ∷ high ∷ []) = look_up w (with_range (range_in low high))
read_back (w ∷ a ∷ b ∷ c ∷ ws) = None

range_is : (r : Range) → FittingRange r → range_in (signed_decimal r.low) (signed_decimal r.high) ≡ r
range_is r h = λ i. record { low = number_is r.low h.0 i; high = number_is r.high h.1 i }

unary_back : (o : UnaryOperator) → FittingUnary o → read_back (unary_words o) ≡ Some (instructions.Unary o)
unary_back (unaries.Negate r) h = ap (λ x. Some (instructions.Unary (unaries.Negate x))) (range_is r h)
unary_back (unaries.Fit r) h = ap (λ x. Some (instructions.Unary (unaries.Fit x))) (range_is r h)
unary_back unaries.Not h = refl
unary_back unaries.Code h = refl
unary_back unaries.Character h = refl

binary_back : (o : BinaryOperator) → FittingBinary o → read_back (binary_words o) ≡ Some (instructions.Binary o)
binary_back (binaries.Add r) h = ap (λ x. Some (instructions.Binary (binaries.Add x))) (range_is r h)
binary_back (binaries.Subtract r) h = ap (λ x. Some (instructions.Binary (binaries.Subtract x))) (range_is r h)
binary_back (binaries.Multiply r) h = ap (λ x. Some (instructions.Binary (binaries.Multiply x))) (range_is r h)
binary_back (binaries.Divide r) h = ap (λ x. Some (instructions.Binary (binaries.Divide x))) (range_is r h)
binary_back (binaries.Modulo r) h = ap (λ x. Some (instructions.Binary (binaries.Modulo x))) (range_is r h)
binary_back binaries.Less h = refl
binary_back binaries.AtMost h = refl
binary_back binaries.Same h = refl

is_back : (x : Instruction) → Fitting x → read_back (instruction_words x) ≡ Some x
is_back (instructions.Number k) h = ap (λ n. Some (instructions.Number n)) (number_is k h)
is_back (instructions.Truth true) h = refl
is_back (instructions.Truth false) h = refl
is_back instructions.Drop h = refl
is_back (instructions.Unary o) h = unary_back o h
is_back (instructions.Binary o) h = binary_back o h
is_back (instructions.Char n) h = ap (λ m. Some (instructions.Char m)) (count_is n h)
is_back (instructions.Get n) h = ap (λ m. Some (instructions.Get m)) (count_is n h)
is_back (instructions.Set n) h = ap (λ m. Some (instructions.Set m)) (count_is n h)
is_back (instructions.Jump n) h = ap (λ m. Some (instructions.Jump m)) (count_is n h)
is_back (instructions.Unless n) h = ap (λ m. Some (instructions.Unless m)) (count_is n h)
is_back (instructions.Call n) h = ap (λ m. Some (instructions.Call m)) (count_is n h)
is_back (instructions.Return n) h = ap (λ m. Some (instructions.Return m)) (count_is n h)
is_back (instructions.Sequence n) h = ap (λ m. Some (instructions.Sequence m)) (count_is n h)
is_back (instructions.Print n) h = ap (λ m. Some (instructions.Print m)) (count_is n h)

words_same : (x y : Instruction) → Fitting x → Fitting y → instruction_words x ≡ instruction_words y → x ≡ y
words_same x y p q e = same_Some x y (sym (is_back x p) ∙ ap read_back e ∙ is_back y q)

-- Their words are words.
range_are : (r : Range) → FittingRange r → are_words (range_words r) ≡ true
range_are r h = and_from (is_word (signed_decimal r.low)) (is_word (signed_decimal r.high) && true) (signed_word r.low h.0) (and_from (is_word (signed_decimal r.high)) true (signed_word r.high h.1) refl)

one_is : (w : List ℕ) → is_word w ≡ true → are_words (w ∷ []) ≡ true
one_is w h = and_from (is_word w) true h refl

unary_are : (o : UnaryOperator) → FittingUnary o → are_words (unary_words o) ≡ true
unary_are (unaries.Negate r) h = range_are r h
unary_are (unaries.Fit r) h = range_are r h
unary_are unaries.Not h = refl
unary_are unaries.Code h = refl
unary_are unaries.Character h = refl

binary_are : (o : BinaryOperator) → FittingBinary o → are_words (binary_words o) ≡ true
binary_are (binaries.Add r) h = range_are r h
binary_are (binaries.Subtract r) h = range_are r h
binary_are (binaries.Multiply r) h = range_are r h
binary_are (binaries.Divide r) h = range_are r h
binary_are (binaries.Modulo r) h = range_are r h
binary_are binaries.Less h = refl
binary_are binaries.AtMost h = refl
binary_are binaries.Same h = refl

are : (x : Instruction) → Fitting x → are_words (instruction_words x) ≡ true
are (instructions.Number k) h = one_is (signed_decimal k) (signed_word k h)
are (instructions.Truth true) h = refl
are (instructions.Truth false) h = refl
are instructions.Drop h = refl
are (instructions.Unary o) h = unary_are o h
are (instructions.Binary o) h = binary_are o h
are (instructions.Char n) h = one_is (decimal n) (decimal_word n h)
are (instructions.Get n) h = one_is (decimal n) (decimal_word n h)
are (instructions.Set n) h = one_is (decimal n) (decimal_word n h)
are (instructions.Jump n) h = one_is (decimal n) (decimal_word n h)
are (instructions.Unless n) h = one_is (decimal n) (decimal_word n h)
are (instructions.Call n) h = one_is (decimal n) (decimal_word n h)
are (instructions.Return n) h = one_is (decimal n) (decimal_word n h)
are (instructions.Sequence n) h = one_is (decimal n) (decimal_word n h)
are (instructions.Print n) h = one_is (decimal n) (decimal_word n h)

unary_some : (o : UnaryOperator) → has_word (unary_words o) ≡ true
unary_some (unaries.Negate r) = refl
unary_some (unaries.Fit r) = refl
unary_some unaries.Not = refl
unary_some unaries.Code = refl
unary_some unaries.Character = refl

binary_some : (o : BinaryOperator) → has_word (binary_words o) ≡ true
binary_some (binaries.Add r) = refl
binary_some (binaries.Subtract r) = refl
binary_some (binaries.Multiply r) = refl
binary_some (binaries.Divide r) = refl
binary_some (binaries.Modulo r) = refl
binary_some binaries.Less = refl
binary_some binaries.AtMost = refl
binary_some binaries.Same = refl

some : (x : Instruction) → has_word (instruction_words x) ≡ true
some (instructions.Number k) = refl
some (instructions.Truth b) = refl
some instructions.Drop = refl
some (instructions.Unary o) = unary_some o
some (instructions.Binary o) = binary_some o
some (instructions.Char n) = refl
some (instructions.Get n) = refl
some (instructions.Set n) = refl
some (instructions.Jump n) = refl
some (instructions.Unless n) = refl
some (instructions.Call n) = refl
some (instructions.Return n) = refl
some (instructions.Sequence n) = refl
some (instructions.Print n) = refl

-- an instruction, and what follows it
pub instruction_read : (a b : Instruction) (x y : List ℕ) → Fitting a → Fitting b → instruction_line a ++ x ≡ instruction_line b ++ y → (a ≡ b) × (x ≡ y)
instruction_read a b x y p q e =
    let line = line_read (instruction_words a) (instruction_words b) x y (some a) (some b) (are a p) (are b q) e in
    (words_same a b p q line.0, line.1)

abbrev shape_back : List (List ℕ) → Option Shape
shape_back [] = None
shape_back (w ∷ []) = None
shape_back (w ∷ v ∷ ws) = look_up v ((codes "num", shapes.Number) ∷ (codes "truth", shapes.Truth) ∷ (codes "char", shapes.Char) ∷ (codes "text", shapes.Text) ∷ [])

shape_is : (s : Shape) → shape_back (shape_words s) ≡ Some s
shape_is shapes.Number = refl
shape_is shapes.Truth = refl
shape_is shapes.Char = refl
shape_is shapes.Text = refl

shape_are : (s : Shape) → are_words (shape_words s) ≡ true
shape_are shapes.Number = refl
shape_are shapes.Truth = refl
shape_are shapes.Char = refl
shape_are shapes.Text = refl

shape_some : (s : Shape) → has_word (shape_words s) ≡ true
shape_some shapes.Number = refl
shape_some shapes.Truth = refl
shape_some shapes.Char = refl
shape_some shapes.Text = refl

-- a shape, and what follows it
pub shape_read : (a b : Shape) (x y : List ℕ) → shape_line a ++ x ≡ shape_line b ++ y → (a ≡ b) × (x ≡ y)
shape_read a b x y e =
    let line = line_read (shape_words a) (shape_words b) x y (shape_some a) (shape_some b) (shape_are a) (shape_are b) e in
    (same_Some a b (sym (shape_is a) ∙ ap shape_back line.0 ∙ shape_is b), line.1)

-- the first byte of a text
abbrev pub first : List ℕ → ℕ
first [] = 0
first (c ∷ cs) = c

-- a line of a shape begins with the byte of `s`
pub shape_first : (s : Shape) (x : List ℕ) → first (shape_line s ++ x) ≡ 115
shape_first shapes.Number x = refl
shape_first shapes.Truth x = refl
shape_first shapes.Char x = refl
shape_first shapes.Text x = refl
