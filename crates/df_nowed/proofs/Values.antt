-- Values of terms as values of formulas, and what operations make of them.
use Rattle.df_nowed.proofs.Words.{◌≡◌, ℕ, zero, suc, ℤ, pos, negsuc, Bool, true, false, ◌&&◌, ◌||◌, if◌then◌else◌, not, ◌+ℤ◌, ◌*ℤ◌, List, [], ◌∷◌, map, slice_get, slice_index_or, nat_lt, int_le, refl, ap, ◌∙◌, arith, option_map_or, option_and_then, list_all, list_any, Decl, NewtypeDecl, MethodDecl, Program, as_newtype, Sort, Free, Ends, is_within, of_program, ends_of_decl, Interpretation, has_sort, number_at, truth_at, is_code, character_of, apply, sort_of, op_of}
use Rattle.std.proofs.lemmas.Bool.Decides.{nat_tests}
use Rattle.df_lang.specs.declared.ty.Ty.{Ty}
use Rattle.df_lang.specs.declared.ty.Ty.TheVariants as types
use Rattle.df_lang.specs.Newtype.{Newtype}
use Rattle.df_meaning.specs.Value as logic
use Rattle.df_meaning.specs.Value.{Value, Truth, Character, Number, Text, number_of, truth_of, same_truth, same_value}
use Rattle.df_meaning.specs.Types.{holds, has_type}
use Rattle.df_form.specs.declared.node.Sort.TheVariants as sorts
use Rattle.df_form.specs.declared.node.Op.{Op}
use Rattle.df_form.specs.declared.node.Op.TheVariants as ops
use Rattle.df_form.specs.declared.symbol.Symbol.{Symbol}
use Rattle.df_form.specs.declared.symbol.Symbol.TheVariants as symbols
use Rattle.df_form.specs.declared.symbol.Payload.{Payload}
use Rattle.df_form.specs.Symbol.{type_in}
use Rattle.df_form.specs.Types as formula_types
use Rattle.df_form.specs.Truth as formulas
use Rattle.df_nterm.specs.Term as trees
use Rattle.df_nenc.specs.Tree.{of_symbol}

-- ---- the same values

abbrev pub as_logic : Value → logic.Value
as_logic (Truth b) = logic.Truth b
as_logic (Character c) = logic.Character c
as_logic (Number n) = logic.Number n
as_logic (Text characters) = logic.Text characters

abbrev pub from_logic : logic.Value → Value
from_logic (logic.Truth b) = Truth b
from_logic (logic.Character c) = Character c
from_logic (logic.Number n) = Number n
from_logic (logic.Text characters) = Text characters

pub logic_again : (v : logic.Value) → as_logic (from_logic v) ≡ v
logic_again (logic.Truth b) = refl
logic_again (logic.Character c) = refl
logic_again (logic.Number n) = refl
logic_again (logic.Text characters) = refl

pub from_plain : (v : logic.Value) → from_logic v ≡ v
from_plain (logic.Truth b) = refl
from_plain (logic.Character c) = refl
from_plain (logic.Number n) = refl
from_plain (logic.Text characters) = refl

number_same : (v : Value) → logic.number_of (as_logic v) ≡ number_of v
number_same (Truth b) = refl
number_same (Character c) = refl
number_same (Number n) = refl
number_same (Text characters) = refl

pub truth_same : (v : Value) → logic.truth_of (as_logic v) ≡ truth_of v
truth_same (Truth b) = refl
truth_same (Character c) = refl
truth_same (Number n) = refl
truth_same (Text characters) = refl

pub sorted_same : (sort : Sort) (v : Value) → formulas.has_sort sort (as_logic v) ≡ has_sort (sort_of sort) v
sorted_same sorts.Number (Truth b) = refl
sorted_same sorts.Number (Character c) = refl
sorted_same sorts.Number (Number n) = refl
sorted_same sorts.Number (Text characters) = refl
sorted_same sorts.Truth (Truth b) = refl
sorted_same sorts.Truth (Character c) = refl
sorted_same sorts.Truth (Number n) = refl
sorted_same sorts.Truth (Text characters) = refl
sorted_same sorts.Character (Truth b) = refl
sorted_same sorts.Character (Character c) = refl
sorted_same sorts.Character (Number n) = refl
sorted_same sorts.Character (Text characters) = refl

-- ---- the values of parts

at_place : (parts : List Value) (n : ℕ) → formulas.value_at (map as_logic parts) n ≡ as_logic (slice_index_or parts n (Number (pos 0)))
at_place [] n = refl
at_place (v ∷ parts) zero = refl
at_place (v ∷ parts) (suc n) = at_place parts n

number_there : (parts : List Value) (n : ℕ) → formulas.number_at (map as_logic parts) n ≡ number_at parts n
number_there parts n = ap logic.number_of (at_place parts n) ∙ number_same (slice_index_or parts n (Number (pos 0)))

truth_there : (parts : List Value) (n : ℕ) → formulas.truth_at (map as_logic parts) n ≡ truth_at parts n
truth_there parts n = ap logic.truth_of (at_place parts n) ∙ truth_same (slice_index_or parts n (Number (pos 0)))

all_true : (parts : List Value) → list_all logic.truth_of (map as_logic parts) ≡ list_all truth_of parts
all_true [] = refl
all_true (v ∷ parts) = ap (λ b. b && list_all logic.truth_of (map as_logic parts)) (truth_same v) ∙ ap (λ b. truth_of v && b) (all_true parts)

any_true : (parts : List Value) → list_any logic.truth_of (map as_logic parts) ≡ list_any truth_of parts
any_true [] = refl
any_true (v ∷ parts) = ap (λ b. b || list_any logic.truth_of (map as_logic parts)) (truth_same v) ∙ ap (λ b. truth_of v || b) (any_true parts)

-- ---- equality, characters and types

truths_same : (a b : Bool) → logic.same_truth a b ≡ same_truth a b
truths_same true b = refl
truths_same false b = refl

equal_same : (v w : Value) → logic.same_value (as_logic v) (as_logic w) ≡ same_value v w
equal_same (Truth a) (Truth b) = truths_same a b
equal_same (Truth a) (Character c) = refl
equal_same (Truth a) (Number n) = refl
equal_same (Truth a) (Text characters) = refl
equal_same (Character c) (Truth b) = refl
equal_same (Character c) (Character d) = refl
equal_same (Character c) (Number n) = refl
equal_same (Character c) (Text characters) = refl
equal_same (Number n) (Truth b) = refl
equal_same (Number n) (Character c) = refl
equal_same (Number n) (Number m) = refl
equal_same (Number n) (Text characters) = refl
equal_same (Text characters) (Truth b) = refl
equal_same (Text characters) (Character c) = refl
equal_same (Text characters) (Number n) = refl
equal_same (Text characters) (Text others) = refl

code_same : (c : ℕ) → nat_lt c 128 ≡ is_code (pos c)
code_same c = grind (arith, nat_tests)

code_if : (b : Bool) (c d : ℕ) → logic.Character (if b then c else d) ≡ as_logic (if b then Character c else Character d)
code_if true c d = refl
code_if false c d = refl

-- a number that no character has is the same one's in both
code_there : (c d : ℕ) → logic.Character (if nat_lt c 128 then c else d) ≡ as_logic (if is_code (pos c) then Character c else Character d)
code_there c d = ap (λ b. logic.Character (if b then c else d)) (code_same c) ∙ code_if (is_code (pos c)) c d

character_same : (z : ℤ) → logic.Character (formulas.code_in z) ≡ as_logic (character_of z)
character_same (pos c) = code_there c _
character_same (negsuc n) = refl

ends_same : (decls : List Decl) (id : ℕ) (n : ℤ)
    → option_map_or (λ (ends : Ends). is_within ends n) (option_and_then (λ found. found) (slice_get (map ends_of_decl decls) id)) false ≡ option_map_or (λ (newtype : Newtype). holds newtype n) (option_and_then as_newtype (slice_get decls id)) false
ends_same [] id n = refl
ends_same (NewtypeDecl newtype ∷ decls) zero n = refl
ends_same (MethodDecl method ∷ decls) zero n = refl
ends_same (decl ∷ decls) (suc id) n = ends_same decls id n

type_same : (program : Program) (ty : Ty) (v : Value) → formula_types.has_type (of_program program) ty (as_logic v) ≡ has_type program ty v
type_same program (types.Newtype id) (Number n) = ends_same program.decls id n
type_same program (types.Newtype id) (Truth b) = refl
type_same program (types.Newtype id) (Character c) = refl
type_same program (types.Newtype id) (Text characters) = refl
type_same program types.Int (Number n) = refl
type_same program types.Int (Truth b) = refl
type_same program types.Int (Character c) = refl
type_same program types.Int (Text characters) = refl
type_same program types.Nat (Number n) = refl
type_same program types.Nat (Truth b) = refl
type_same program types.Nat (Character c) = refl
type_same program types.Nat (Text characters) = refl
type_same program types.Bool (Number n) = refl
type_same program types.Bool (Truth b) = refl
type_same program types.Bool (Character c) = refl
type_same program types.Bool (Text characters) = refl
type_same program types.Char (Number n) = refl
type_same program types.Char (Truth b) = refl
type_same program types.Char (Character c) = refl
type_same program types.Char (Text characters) = refl

-- ---- operations

abbrev pub free_in : Free → trees.Free
free_in free = record { number = free.number; sort = sort_of free.sort }

-- both give the free terms the same values
pub record Agrees (i : Interpretation) (a : formulas.Assignment) : Type 0 where
  pub by : (free : Free) → a.value free ≡ as_logic (i.value (free_in free))

module _ (depth : ℕ) (i : Interpretation) (a : formulas.Assignment) (agrees : Agrees i a) where
  number_of_two : (f : ℤ → ℤ → ℤ) (parts : List Value) → logic.Number (f (formulas.number_at (map as_logic parts) 0) (formulas.number_at (map as_logic parts) 1)) ≡ logic.Number (f (number_at parts 0) (number_at parts 1))
  number_of_two f parts = let left = number_there parts 0 in let right = number_there parts 1 in λ j. logic.Number (f (left j) (right j))

  truth_of_two : (f : Bool → Bool → Bool) (parts : List Value) → logic.Truth (f (formulas.truth_at (map as_logic parts) 0) (formulas.truth_at (map as_logic parts) 1)) ≡ logic.Truth (f (truth_at parts 0) (truth_at parts 1))
  truth_of_two f parts = let left = truth_there parts 0 in let right = truth_there parts 1 in λ j. logic.Truth (f (left j) (right j))

  symbol_same : (symbol : Symbol) (payload : Payload) (parts : List Value) → formulas.apply depth (of_program i.program) a (ops.Of symbol payload) (map as_logic parts) ≡ as_logic (apply i (of_symbol symbol payload) parts)
  symbol_same symbols.Div payload parts = number_of_two formulas.quotient parts
  symbol_same symbols.Mod payload parts = number_of_two formulas.remainder parts
  symbol_same symbols.Code payload parts = ap logic.Number (number_there parts 0)
  symbol_same symbols.Chr payload parts = ap (λ z. logic.Character (formulas.code_in z)) (number_there parts 0) ∙ character_same (number_at parts 0)
  symbol_same symbols.Is payload parts =
      ap (λ v. logic.Truth (formula_types.has_type (of_program i.program) (type_in payload) v)) (at_place parts 0) ∙ ap logic.Truth (type_same i.program (type_in payload) (slice_index_or parts 0 (Number (pos 0))))

  pub apply_same : (op : Op) (parts : List Value) → formulas.apply depth (of_program i.program) a op (map as_logic parts) ≡ as_logic (apply i (op_of op) parts)
  apply_same (ops.Number n) parts = refl
  apply_same (ops.Free free) parts = agrees.by free
  apply_same ops.Plus parts = number_of_two (λ x y. x +ℤ y) parts
  apply_same ops.Times parts = number_of_two (λ x y. x *ℤ y) parts
  apply_same (ops.Of symbol payload) parts = symbol_same symbol payload parts
  apply_same ops.Equal parts =
      let left = at_place parts 0 in
      let right = at_place parts 1 in
      let there : logic.Truth (logic.same_value (formulas.value_at (map as_logic parts) 0) (formulas.value_at (map as_logic parts) 1)) ≡ logic.Truth (logic.same_value (as_logic (slice_index_or parts 0 (Number (pos 0)))) (as_logic (slice_index_or parts 1 (Number (pos 0))))) = λ j. logic.Truth (logic.same_value (left j) (right j)) in
      there ∙ ap logic.Truth (equal_same (slice_index_or parts 0 (Number (pos 0))) (slice_index_or parts 1 (Number (pos 0))))
  apply_same ops.AtMost parts = let left = number_there parts 0 in let right = number_there parts 1 in λ j. logic.Truth (int_le (left j) (right j))
  apply_same ops.Not parts = ap (λ b. logic.Truth (not b)) (truth_there parts 0)
  apply_same ops.And parts = ap logic.Truth (all_true parts)
  apply_same ops.Or parts = ap logic.Truth (any_true parts)
  apply_same ops.Implies parts = truth_of_two (λ b c. not b || c) parts
  apply_same ops.Iff parts = truth_of_two logic.same_truth parts ∙ ap logic.Truth (truths_same (truth_at parts 0) (truth_at parts 1))
