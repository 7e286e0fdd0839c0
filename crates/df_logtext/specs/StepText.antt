-- The words of a step: a letter, and what follows it.
use Rattle.std.specs.Prelude.{ℕ, Bool, true, false, List, [], ◌∷◌, ◌++◌, map, slice_get, codes, unwrap_or}
use Rattle.std.specs.Option.{option_map_or}
use Rattle.std.specs.List.{flat_map}
use Rattle.std.specs.Fmt.{decimal, signed_decimal}
use Rattle.df_lang.specs.declared.ty.Ty.{Ty}
use Rattle.df_lang.specs.declared.ty.Ty.TheVariants as types
use Rattle.df_form.specs.declared.log.Lit.{Lit}
use Rattle.df_form.specs.declared.log.Multiple.{Multiple}
use Rattle.df_form.specs.declared.log.Pair.{Pair}
use Rattle.df_form.specs.declared.node.Op.{Op}
use Rattle.df_form.specs.declared.node.Op.TheVariants as ops
use Rattle.df_form.specs.declared.symbol.Symbol.{Symbol}
use Rattle.df_form.specs.declared.symbol.Payload.{Payload}
use Rattle.df_form.specs.declared.symbol.Payload.TheVariants as payloads
use Rattle.df_form.specs.Symbol.{Entry, row_of}
use Rattle.df_form.specs.Log.{Combination, Step, Hypothesis, Goal, Connective, Schema, Propagation, Congruence, Linear, Split, Make}
use Rattle.df_form.specs.Node.{Node}
use Rattle.df_logtext.specs.Joined.{joined}

-- the words of the types that no program declares
abbrev pub type_words : List (List ℕ)
type_words = codes "int" ∷ codes "nat" ∷ codes "bool" ∷ codes "char" ∷ []

-- the name of a type: for a newtype that of its declaration; the names stand by the numbers of declarations
abbrev pub type_name : List (List ℕ) → Ty → List ℕ
type_name names (types.Newtype number) = unwrap_or (slice_get names number) []
type_name names types.Int = codes "int"
type_name names types.Nat = codes "nat"
type_name names types.Bool = codes "bool"
type_name names types.Char = codes "char"

-- the word of a symbol, by its row
abbrev pub word_of : Symbol → List ℕ
word_of symbol = option_map_or (λ (row : Entry). row.word) (row_of symbol) []

-- what stands with it, behind its word
abbrev pub payload_word : List (List ℕ) → Payload → List ℕ
payload_word names payloads.Nothing = []
payload_word names (payloads.Type ty) = codes ":" ++ type_name names ty

-- the word of an operation; no line makes a free term, which has none
abbrev pub op_word : List (List ℕ) → Op → List ℕ
op_word names (ops.Number number) = codes "num"
op_word names (ops.Free free) = []
op_word names ops.Plus = codes "plus"
op_word names ops.Times = codes "times"
op_word names ops.Equal = codes "eq"
op_word names ops.AtMost = codes "le"
op_word names ops.Not = codes "not"
op_word names ops.And = codes "and"
op_word names ops.Or = codes "or"
op_word names ops.Implies = codes "imp"
op_word names ops.Iff = codes "iff"
op_word names (ops.Of symbol payload) = word_of symbol ++ payload_word names payload

-- a number stands behind its word
abbrev pub op_number : Op → List (List ℕ)
op_number (ops.Number number) = signed_decimal number ∷ []
op_number op = []

abbrev pub node_words : List (List ℕ) → Node → List (List ℕ)
node_words names node = op_word names node.op ∷ (op_number node.op ++ map decimal node.parts)

-- 43 is `+` and 45 is `-`
abbrev pub sign : Bool → ℕ
sign true = 43
sign false = 45

abbrev pub literal_word : Lit → List ℕ
literal_word l = sign l.positive ∷ decimal l.node

-- `M*I`, with `*` 42
abbrev pub multiple_text : Multiple → List ℕ
multiple_text m = signed_decimal m.factor ++ 42 ∷ decimal m.row

-- `M*I+M*I`; a sum without members has no word
abbrev pub sum_words : List Multiple → List (List ℕ)
sum_words [] = []
sum_words (first ∷ others) = joined 43 (map multiple_text (first ∷ others)) ∷ []

-- the divisor, and the sum
abbrev pub combination_words : Combination → List (List ℕ)
combination_words c = signed_decimal c.divisor ∷ sum_words c.members

-- `N M`
abbrev pub pair_words : Pair → List (List ℕ)
pair_words p = decimal p.left ∷ decimal p.right ∷ []

abbrev pub letter : Step → List ℕ
letter (Hypothesis number) = codes "h"
letter Goal = codes "g"
letter (Connective node clause) = codes "x"
letter (Schema schema clause terms) = codes "a"
letter (Propagation clauses conclusion) = codes "u"
letter (Congruence conclusion pairs) = codes "e"
letter (Linear conclusion combinations) = codes "l"
letter (Split node bound) = codes "s"
letter (Make node) = codes "n"

-- the words behind the letter
abbrev pub arguments : List (List ℕ) → Step → List (List ℕ)
arguments names (Hypothesis number) = decimal number ∷ []
arguments names Goal = []
arguments names (Connective node clause) = decimal node ∷ decimal clause ∷ []
arguments names (Schema schema clause terms) = decimal schema ∷ decimal clause ∷ map decimal terms
arguments names (Propagation clauses conclusion) = map decimal clauses ++ codes ":" ∷ map literal_word conclusion
arguments names (Congruence conclusion pairs) = map literal_word conclusion ++ codes ":" ∷ flat_map pair_words pairs
arguments names (Linear conclusion combinations) = map literal_word conclusion ++ codes ":" ∷ flat_map combination_words combinations
arguments names (Split node bound) = decimal node ∷ signed_decimal bound ∷ []
arguments names (Make node) = node_words names node

-- one blank (32) between words
abbrev pub step_line : List (List ℕ) → Step → List ℕ
step_line names step = joined 32 (letter step ∷ arguments names step)
