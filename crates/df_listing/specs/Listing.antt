-- The text of a code, line by line. A line is a list of words.
use Rattle.std.specs.Prelude.{ℕ, Bool, true, false, List, [], ◌∷◌, ◌++◌, length, codes}
use Rattle.std.specs.List.{flat_map}
use Rattle.std.specs.Fmt.{decimal, signed_decimal}
use Rattle.df_nmach.specs.declared.instruction.Range.{Range}
use Rattle.df_nmach.specs.declared.instruction.UnaryOperator.{UnaryOperator}
use Rattle.df_nmach.specs.declared.instruction.UnaryOperator.TheVariants as unaries
use Rattle.df_nmach.specs.declared.instruction.BinaryOperator.{BinaryOperator}
use Rattle.df_nmach.specs.declared.instruction.BinaryOperator.TheVariants as binaries
use Rattle.df_nmach.specs.declared.instruction.Instruction.{Instruction}
use Rattle.df_nmach.specs.declared.instruction.Instruction.TheVariants as instructions
use Rattle.df_nmach.specs.declared.code.Shape.{Shape}
use Rattle.df_nmach.specs.declared.code.Shape.TheVariants as shapes
use Rattle.df_nmach.specs.State.{Method, Code}

abbrev pub truth_word : Bool → List ℕ
truth_word true = codes "true"
truth_word false = codes "false"

-- lo hi
abbrev pub range_words : Range → List (List ℕ)
range_words r = signed_decimal r.low ∷ signed_decimal r.high ∷ []

abbrev pub unary_words : UnaryOperator → List (List ℕ)
unary_words (unaries.Negate r) = codes "neg" ∷ range_words r
unary_words (unaries.Fit r) = codes "fit" ∷ range_words r
unary_words unaries.Not = codes "not" ∷ []
unary_words unaries.Code = codes "code" ∷ []
unary_words unaries.Character = codes "chr" ∷ []

abbrev pub binary_words : BinaryOperator → List (List ℕ)
binary_words (binaries.Add r) = codes "add" ∷ range_words r
binary_words (binaries.Subtract r) = codes "sub" ∷ range_words r
binary_words (binaries.Multiply r) = codes "mul" ∷ range_words r
binary_words (binaries.Divide r) = codes "div" ∷ range_words r
binary_words (binaries.Modulo r) = codes "mod" ∷ range_words r
binary_words binaries.Less = codes "less" ∷ []
binary_words binaries.AtMost = codes "most" ∷ []
binary_words binaries.Same = codes "same" ∷ []

-- the name of an instruction, and its numbers
abbrev pub instruction_words : Instruction → List (List ℕ)
instruction_words (instructions.Number k) = codes "num" ∷ signed_decimal k ∷ []
instruction_words (instructions.Truth b) = codes "truth" ∷ truth_word b ∷ []
instruction_words (instructions.Char k) = codes "char" ∷ decimal k ∷ []
instruction_words (instructions.Get i) = codes "get" ∷ decimal i ∷ []
instruction_words (instructions.Set i) = codes "set" ∷ decimal i ∷ []
instruction_words instructions.Drop = codes "drop" ∷ []
instruction_words (instructions.Unary operator) = unary_words operator
instruction_words (instructions.Binary operator) = binary_words operator
instruction_words (instructions.Jump p) = codes "jump" ∷ decimal p ∷ []
instruction_words (instructions.Unless p) = codes "unless" ∷ decimal p ∷ []
instruction_words (instructions.Call m) = codes "call" ∷ decimal m ∷ []
instruction_words (instructions.Return k) = codes "ret" ∷ decimal k ∷ []
instruction_words (instructions.Sequence n) = codes "seq" ∷ decimal n ∷ []
instruction_words (instructions.Print s) = codes "print" ∷ decimal s ∷ []

-- shape, and how values are printed
abbrev pub shape_words : Shape → List (List ℕ)
shape_words shapes.Number = codes "shape" ∷ codes "num" ∷ []
shape_words shapes.Truth = codes "shape" ∷ codes "truth" ∷ []
shape_words shapes.Char = codes "shape" ∷ codes "char" ∷ []
shape_words shapes.Text = codes "shape" ∷ codes "text" ∷ []

-- method NAME PARAMS RESULTS LOCALS COUNT
abbrev pub method_words : Method → List (List ℕ)
method_words m = codes "method" ∷ m.name ∷ decimal m.parameters ∷ decimal m.results ∷ decimal m.locals ∷ decimal (length m.instructions) ∷ []

-- the words past the first, each after a blank, and a line feed
abbrev pub words_text : List (List ℕ) → List ℕ
words_text [] = codes "\n"
words_text (w ∷ ws) = codes " " ++ (w ++ words_text ws)

-- one blank between words, and a line feed
abbrev pub line_text : List (List ℕ) → List ℕ
line_text [] = codes "\n"
line_text (w ∷ ws) = w ++ words_text ws

abbrev pub instruction_line : Instruction → List ℕ
instruction_line i = line_text (instruction_words i)

abbrev pub shape_line : Shape → List ℕ
shape_line s = line_text (shape_words s)

-- a method, and its instructions
abbrev pub method_text : Method → List ℕ
method_text m = line_text (method_words m) ++ flat_map instruction_line m.instructions

-- dfycode 1; the shapes; the methods; end
abbrev pub listing_text : Code → List ℕ
listing_text code =
    line_text (codes "dfycode" ∷ codes "1" ∷ []) ++ flat_map shape_line code.shapes ++ flat_map method_text code.methods ++ line_text (codes "end" ∷ [])
