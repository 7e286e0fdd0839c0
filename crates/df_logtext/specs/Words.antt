-- What words are read as.
use Rattle.std.specs.Prelude.{ℕ, ◌+◌, ℤ, ◌==◌, ◌^◌, Bool, true, false, ◌&&◌, nat_eq, List, [], ◌∷◌, ◌++◌, take, drop, Option, None, Some, codes, if◌then◌else◌}
use Rattle.std.specs.Option.{option_map, option_and_then}
use Rattle.std.specs.List.{starts_with, find}
use Rattle.df_base.specs.Names.{same_text}
use Rattle.df_lang.specs.declared.ty.Ty.{Ty}
use Rattle.df_lang.specs.declared.ty.Ty.TheVariants as types
use Rattle.df_form.specs.declared.log.Lit.{Lit}
use Rattle.df_form.specs.declared.log.Multiple.{Multiple}
use Rattle.df_form.specs.declared.log.Pair.{Pair}
use Rattle.df_form.specs.declared.node.Op.{Op}
use Rattle.df_form.specs.declared.node.Op.TheVariants as ops
use Rattle.df_form.specs.declared.symbol.PayloadKind.{PayloadKind}
use Rattle.df_form.specs.declared.symbol.PayloadKind.TheVariants as kinds
use Rattle.df_form.specs.Symbol.{Entry, symbols}
use Rattle.df_form.specs.Node.{symbol, test_of}
use Rattle.df_form.specs.Clause.{yes, no}
use Rattle.df_form.specs.Log.{Combination}
use Rattle.df_logtext.specs.Numeral.{number_of, integer_of}
use Rattle.df_logtext.specs.Parting.{parted}

-- what each of the words is read as, behind what is read before; none where one is read as nothing
abbrev pub each_from : {A : Type 0} → (List ℕ → Option A) → List A → List (List ℕ) → Option (List A)
each_from read before [] = Some before
each_from read before (word ∷ words) = option_and_then (λ x. each_from read (before ++ x ∷ []) words) (read word)

-- the number of a node, a clause, a row or a hypothesis
abbrev pub index_of : List ℕ → Option ℕ
index_of word = number_of (2 ^ 64) word

abbrev pub indices_of : List (List ℕ) → Option (List ℕ)
indices_of words = each_from index_of [] words

-- 43 is `+` and 45 is `-`
unfoldable pub literal_of : List ℕ → Option Lit
literal_of [] = None
literal_of (b ∷ bs) = if b == 43 then option_map yes (index_of bs) else (if b == 45 then option_map no (index_of bs) else None)

abbrev pub literals_of : List (List ℕ) → Option (List Lit)
literals_of words = each_from literal_of [] words

abbrev pub pair_of : Option ℕ → Option ℕ → Option Pair
pair_of left right = option_and_then (λ l. option_map (λ r. record { left = l; right = r }) right) left

-- pairs behind those before
abbrev pub pairs_from : List Pair → List (List ℕ) → Option (List Pair)
pairs_from before [] = Some before
pairs_from before (left ∷ []) = None
pairs_from before (left ∷ right ∷ words) = option_and_then (λ p. pairs_from (before ++ p ∷ []) words) (pair_of (index_of left) (index_of right))

-- where the first one stands that passes the test; they are numbered from a number on
abbrev pub place_from : {A : Type 0} → (A → Bool) → ℕ → List A → Option ℕ
place_from test number [] = None
place_from test number (x ∷ xs) = if test x then Some number else place_from test (number + 1) xs

abbrev pub product_of : Option ℤ → Option ℕ → Option Multiple
product_of factor row = option_and_then (λ f. option_map (λ r. record { factor = f; row = r }) row) factor

-- around the first `*` (42)
unfoldable pub multiple_of : List ℕ → Option Multiple
multiple_of word = option_and_then (λ at. product_of (integer_of (take at word)) (index_of (drop (at + 1) word))) (place_from (λ b. b == 42) 0 word)

-- between `+`
abbrev pub sum_of : List ℕ → Option (List Multiple)
sum_of word = each_from multiple_of [] (parted 43 word)

abbrev pub with_combination : List Combination → ℤ → List Multiple → List Combination
with_combination before divisor members = before ++ record { divisor = divisor; members = members } ∷ []

-- a divisor behind which no sum stands
abbrev pub with_divisor : List Combination → Option ℤ → List Combination
with_divisor before None = before
with_divisor before (Some divisor) = with_combination before divisor []

abbrev pub found_or : {A B : Type 0} → Option A → (A → B) → B → B
found_or None go other = other
found_or (Some x) go other = go x

-- combinations behind those before, of which the last may be a divisor whose sum is still to come
abbrev pub combinations_from : List Combination → Option ℤ → List (List ℕ) → Option (List Combination)
combinations_from before divisor [] = Some (with_divisor before divisor)
combinations_from before divisor (word ∷ words) =
    found_or (integer_of word) (λ next. combinations_from (with_divisor before divisor) (Some next) words)
    (option_and_then (λ d. option_and_then (λ members. combinations_from (with_combination before d members) None words) (sum_of word)) divisor)

-- a type that no program declares, by its word
unfoldable pub known_type_of : List ℕ → Option Ty
known_type_of word =
    if same_text word (codes "int") then Some types.Int
    else (if same_text word (codes "nat") then Some types.Nat
    else (if same_text word (codes "bool") then Some types.Bool
    else (if same_text word (codes "char") then Some types.Char else None)))

abbrev pub newtype_of : List (List ℕ) → List ℕ → Option Ty
newtype_of names name = option_map (λ n. types.Newtype n) (place_from (λ other. same_text other name) 0 names)

-- the type of a name
unfoldable pub type_of : List (List ℕ) → List ℕ → Option Ty
type_of names name = found_or (known_type_of name) (λ ty. Some ty) (newtype_of names name)

-- a sum or a product, by its word
unfoldable pub term_op_of : List ℕ → Option Op
term_op_of word =
    if same_text word (codes "plus") then Some ops.Plus
    else (if same_text word (codes "times") then Some ops.Times else None)

-- an operation that makes a truth, by its word, but for tests of types
unfoldable pub formula_op_of : List ℕ → Option Op
formula_op_of word =
    if same_text word (codes "eq") then Some ops.Equal
    else (if same_text word (codes "le") then Some ops.AtMost
    else (if same_text word (codes "not") then Some ops.Not
    else (if same_text word (codes "and") then Some ops.And
    else (if same_text word (codes "or") then Some ops.Or
    else (if same_text word (codes "imp") then Some ops.Implies
    else (if same_text word (codes "iff") then Some ops.Iff else None))))))

unfoldable pub plain_op_of : List ℕ → Option Op
plain_op_of word = found_or (term_op_of word) (λ op. Some op) (formula_op_of word)

-- nothing stands with the symbol, and this is its word
abbrev pub is_bare : PayloadKind → Bool
is_bare kinds.Nothing = true
is_bare kinds.Type = false

abbrev pub is_bare_row : List ℕ → Entry → Bool
is_bare_row word row = is_bare row.payload && same_text word row.word

-- a symbol with which nothing stands, by its word
abbrev pub bare_op_of : List ℕ → Option Op
bare_op_of word = option_map (λ (row : Entry). symbol row.symbol) (find (is_bare_row word) symbols)

-- behind `is:`
unfoldable pub typed_op_of : List (List ℕ) → List ℕ → Option Op
typed_op_of names word = if starts_with nat_eq word (codes "is:") then option_map (λ ty. test_of ty) (type_of names (drop 3 word)) else None

unfoldable pub op_of : List (List ℕ) → List ℕ → Option Op
op_of names word = found_or (plain_op_of word) (λ op. Some op) (found_or (bare_op_of word) (λ op. Some op) (typed_op_of names word))
