-- Which logs have a text: their numbers fit, and their types have names.
use Rattle.std.specs.Prelude.{◌≡◌, ◌≢◌, ℕ, ℤ, pos, negsuc, ◌<◌, ◌^◌, List, slice_get, Some}
use Rattle.std.specs.Option.{option_map_or}
use Rattle.std.specs.List.{AllByRecursion}
use Rattle.df_lang.specs.declared.ty.Ty.{Ty}
use Rattle.df_lang.specs.declared.ty.Ty.TheVariants as types
use Rattle.df_form.specs.declared.log.Lit.{Lit}
use Rattle.df_form.specs.declared.log.Multiple.{Multiple}
use Rattle.df_form.specs.declared.log.Pair.{Pair}
use Rattle.df_form.specs.declared.node.Op.{Op}
use Rattle.df_form.specs.declared.node.Op.TheVariants as ops
use Rattle.df_form.specs.declared.symbol.Symbol.{Symbol}
use Rattle.df_form.specs.declared.symbol.Payload.{Payload}
use Rattle.df_form.specs.declared.symbol.Payload.TheVariants as payloads
use Rattle.df_form.specs.declared.symbol.PayloadKind.{PayloadKind}
use Rattle.df_form.specs.declared.symbol.PayloadKind.TheVariants as kinds
use Rattle.df_form.specs.Symbol.{Entry, row_of}
use Rattle.df_form.specs.Log.{Combination, Step, Hypothesis, Goal, Connective, Schema, Propagation, Congruence, Linear, Split, Make}
use Rattle.df_logtext.specs.StepText.{type_words}

-- the number of a node, a clause, a row or a hypothesis
abbrev pub IsIndex : ℕ → Type 0
IsIndex n = n < 2 ^ 64

-- a whole number of 128 bits
abbrev pub IsWide : ℤ → Type 0
IsWide (pos n) = n < 2 ^ 127
IsWide (negsuc n) = n < 2 ^ 127

-- no blank (32) and no line feed (10)
abbrev pub IsPlain : ℕ → Type 0
IsPlain b = (b ≢ 32) × (b ≢ 10)

abbrev pub IsWord : List ℕ → Type 0
IsWord word = AllByRecursion IsPlain word

-- the declaration of a number has a name, which is a word, and neither one before it nor a type that no
-- program declares has that name
pub record IsNamed (names : List (List ℕ)) (number : ℕ) : Type 0 where
  pub name : List ℕ
  pub here : slice_get names number ≡ Some name
  pub first : (other : ℕ) → other < number → slice_get names other ≢ Some name
  pub apart : AllByRecursion (λ known. known ≢ name) type_words
  pub word : IsWord name

abbrev pub HasName : List (List ℕ) → Ty → Type 0
HasName names (types.Newtype number) = IsNamed names number
HasName names ty = Unit {0}

-- what is to stand with a symbol, by its row
abbrev pub kind_of : Symbol → PayloadKind
kind_of symbol = option_map_or (λ (row : Entry). row.payload) (row_of symbol) kinds.Nothing

-- this stands with a symbol that wants such, and a type has a name
abbrev pub HasPayload : List (List ℕ) → PayloadKind → Payload → Type 0
HasPayload names kinds.Nothing payloads.Nothing = Unit {0}
HasPayload names kinds.Type (payloads.Type ty) = HasName names ty
HasPayload names kind payload = ⊥

-- no line makes a free term
abbrev pub HasWord : List (List ℕ) → Op → Type 0
HasWord names (ops.Number number) = IsWide number
HasWord names (ops.Free free) = ⊥
HasWord names (ops.Of symbol payload) = HasPayload names (kind_of symbol) payload
HasWord names op = Unit {0}

abbrev pub HasLiteral : Lit → Type 0
HasLiteral l = IsIndex l.node

abbrev pub HasMultiple : Multiple → Type 0
HasMultiple m = IsWide m.factor × IsIndex m.row

abbrev pub HasPair : Pair → Type 0
HasPair p = IsIndex p.left × IsIndex p.right

abbrev pub HasCombination : Combination → Type 0
HasCombination c = IsWide c.divisor × AllByRecursion HasMultiple c.members

-- the numbers of a step fit, and of the operation of a node that it makes this holds
abbrev pub HasLineWith : (Op → Type 0) → Step → Type 0
HasLineWith has (Hypothesis number) = IsIndex number
HasLineWith has Goal = Unit {0}
HasLineWith has (Connective node clause) = IsIndex node × IsIndex clause
HasLineWith has (Schema schema clause terms) = (schema < 2 ^ 8) × (clause < 2 ^ 32) × AllByRecursion IsIndex terms
HasLineWith has (Propagation clauses conclusion) = AllByRecursion IsIndex clauses × AllByRecursion HasLiteral conclusion
HasLineWith has (Congruence conclusion pairs) = AllByRecursion HasLiteral conclusion × AllByRecursion HasPair pairs
HasLineWith has (Linear conclusion combinations) = AllByRecursion HasLiteral conclusion × AllByRecursion HasCombination combinations
HasLineWith has (Split node bound) = IsIndex node × IsWide bound
HasLineWith has (Make node) = has node.op × AllByRecursion IsIndex node.parts

abbrev pub HasLine : List (List ℕ) → Step → Type 0
HasLine names step = HasLineWith (HasWord names) step

abbrev pub HaveText : List (List ℕ) → List (List Step) → Type 0
HaveText names logs = AllByRecursion (λ log. AllByRecursion (HasLine names) log) logs

-- ---- its two halves

-- an operation's number fits
abbrev pub HasNumber : Op → Type 0
HasNumber (ops.Number number) = IsWide number
HasNumber op = Unit {0}

-- all numbers fit
abbrev pub HasNumbers : Step → Type 0
HasNumbers step = HasLineWith HasNumber step

abbrev pub HaveNumbers : List (List Step) → Type 0
HaveNumbers logs = AllByRecursion (λ log. AllByRecursion HasNumbers log) logs

-- the operation of a node that is made is no free term, and what stands with a symbol is of its kind, and a type has a name
abbrev pub HasNamedOp : List (List ℕ) → Op → Type 0
HasNamedOp names (ops.Free free) = ⊥
HasNamedOp names (ops.Of symbol payload) = HasPayload names (kind_of symbol) payload
HasNamedOp names op = Unit {0}

abbrev pub HasNames : List (List ℕ) → Step → Type 0
HasNames names (Make node) = HasNamedOp names node.op
HasNames names step = Unit {0}

abbrev pub HaveNames : List (List ℕ) → List (List Step) → Type 0
HaveNames names logs = AllByRecursion (λ log. AllByRecursion (HasNames names) log) logs
