-- Symbols: operations that the logic does not look into. The table, which the code has, says what each takes and gives.
use Rattle.std.specs.Prelude.{ℕ, Bool, true, false, List, map, Option}
use Rattle.std.specs.Option.{option_map_or}
use Rattle.std.specs.List.{find}
use Rattle.std.specs.Borrow.{Bor}
use Rattle.df_lang.specs.declared.ty.Ty.{Ty}
use Rattle.df_lang.specs.declared.ty.Ty.TheVariants as types
use Rattle.df_lang.specs.Newtype.{same_type}
use Rattle.df_form.specs.declared.node.Sort.{Sort}
use Rattle.df_form.specs.declared.node.Sort.TheVariants as sorts
use Rattle.df_form.specs.declared.symbol.Symbol.{Symbol}
use Rattle.df_form.specs.declared.symbol.Payload.{Payload}
use Rattle.df_form.specs.declared.symbol.Payload.TheVariants as payloads
use Rattle.df_form.specs.declared.symbol.PayloadKind.{PayloadKind}
use Rattle.df_form.specs.declared.symbol.PayloadKind.TheVariants as kinds
use Rattle.df_form.specs.declared.symbol.Pattern.{Pattern}
use Rattle.df_form.specs.declared.symbol.Pattern.TheVariants as patterns
use Rattle.df_form.specs.declared.symbol.SymbolRow.{SymbolRow}
use Rattle.df_form.specs.declared.symbol.TheConstants.{TABLE}
use Rattle.df_form.specs.contracts.symbol.SymbolPartialEq.TheImpl as derived
use Rattle.df_form.specs.Types.{sort_of_type}

pub record Entry : Type 0 where
  pub symbol : Symbol
  pub word : List ℕ
  pub payload : PayloadKind
  pub taken : List Pattern
  pub given : Pattern

-- a row of the code, of which these are the lists
abbrev pub entry_by : {W T : Type 0} → (W → List ℕ) → (T → List Pattern) → SymbolRow W T → Entry
entry_by word taken row = record { symbol = row.symbol; word = word row.word; payload = row.payload; taken = taken row.taken; given = row.given }

-- a constant
abbrev pub entry : SymbolRow (record { now : List ℕ }) (record { now : List Pattern }) → Entry
entry row = entry_by (λ l. l.now) (λ l. l.now) row

-- where its lists are borrowed
abbrev pub entry_of : SymbolRow (Bor (List ℕ)) (Bor (List Pattern)) → Entry
entry_of row = entry_by (λ l. l.now) (λ l. l.now) row

-- the rows of the code
unfoldable pub symbols : List Entry
symbols = map entry TABLE.now

-- equality as the code derives it
unfoldable pub same_symbol : Symbol → Symbol → Bool
same_symbol a b = derived.eq-value.it a b

abbrev pub same_payload : Payload → Payload → Bool
same_payload payloads.Nothing payloads.Nothing = true
same_payload (payloads.Type a) (payloads.Type b) = same_type a b
same_payload a b = false

abbrev pub is_row : Symbol → Entry → Bool
is_row symbol row = same_symbol row.symbol symbol

abbrev pub row_of : Symbol → Option Entry
row_of symbol = find (is_row symbol) symbols

-- that a truth is of a type is no formula
abbrev pub is_testable : Ty → Bool
is_testable types.Bool = false
is_testable ty = true

-- this may stand with a symbol that wants such
abbrev pub accepts : PayloadKind → Payload → Bool
accepts kinds.Nothing payloads.Nothing = true
accepts kinds.Type (payloads.Type ty) = is_testable ty
accepts kind payload = false

-- the type that stands with a symbol; `int` where none does
abbrev pub type_in : Payload → Ty
type_in (payloads.Type ty) = ty
type_in payloads.Nothing = types.Int

-- the sort, where this stands with the symbol
abbrev pub filled : Payload → Pattern → Sort
filled payload (patterns.Fixed sort) = sort
filled payload patterns.OfType = sort_of_type (type_in payload)

-- the sort that a symbol gives
abbrev pub given_by : Symbol → Pattern
given_by symbol = option_map_or (λ (row : Entry). row.given) (row_of symbol) (patterns.Fixed sorts.Number)
