-- Operations on numbers, where a truth counts as 1 or 0, and as true from 1 on, and a character as its code.
use Rattle.std.specs.Prelude.{ℤ, pos, ◌+ℤ◌, ◌*ℤ◌, int_le, Bool, true, List, Option, Some}
use Rattle.df_form.specs.World.{World}
use Rattle.df_form.specs.Types.{has_number}
use Rattle.df_lang.specs.declared.ty.Ty.{Ty}
use Rattle.df_lang.specs.declared.ty.Ty.TheVariants as types
use Rattle.df_form.specs.declared.node.Sort.{Sort}
use Rattle.df_form.specs.declared.node.Sort.TheVariants as sorts
use Rattle.df_form.specs.declared.node.Free.{Free}
use Rattle.df_form.specs.declared.node.Op.{Op}
use Rattle.df_form.specs.declared.node.Op.TheVariants as ops
use Rattle.df_form.specs.declared.symbol.Symbol.{Symbol}
use Rattle.df_form.specs.declared.symbol.Symbol.TheVariants as symbols
use Rattle.df_form.specs.declared.symbol.Payload.{Payload}
use Rattle.df_form.specs.Symbol.{type_in}
use Rattle.df_form.specs.Truth.{quotient, remainder, code_in}
use Rattle.df_row.specs.RowView.{narrow}
use Rattle.df_table.specs.TableModel.{number_at}
use Rattle.df_model.specs.TableNumbers.{number_of_truth, formula_truth}
pub use Rattle.df_model.specs.TableNumbers.{counts_as_true}

-- whether a value of the type's sort with this number is of the type
abbrev pub is_of_type : World → Ty → ℤ → Bool
is_of_type world (types.Newtype number) z = has_number world (types.Newtype number) z
is_of_type world types.Int z = true
is_of_type world types.Nat z = int_le (pos 0) z
is_of_type world types.Bool z = true
is_of_type world types.Char z = true

-- the number of a symbol at those of its parts
abbrev pub symbol_number : World → Symbol → Payload → List ℤ → ℤ
symbol_number world symbols.Div payload parts = quotient (number_at parts 0) (number_at parts 1)
symbol_number world symbols.Mod payload parts = remainder (number_at parts 0) (number_at parts 1)
symbol_number world symbols.Code payload parts = number_at parts 0
symbol_number world symbols.Chr payload parts = pos (code_in (number_at parts 0))
symbol_number world symbols.Is payload parts = number_of_truth (is_of_type world (type_in payload) (number_at parts 0))

-- the number of an operation at those of its parts
abbrev pub number_by : World → (Free → ℤ) → Op → List ℤ → ℤ
number_by world free (ops.Number k) parts = k
number_by world free (ops.Free term) parts = free term
number_by world free ops.Plus parts = number_at parts 0 +ℤ number_at parts 1
number_by world free ops.Times parts = number_at parts 0 *ℤ number_at parts 1
number_by world free (ops.Of symbol payload) parts = symbol_number world symbol payload parts
number_by world free op parts = number_of_truth (formula_truth op parts)

-- where it has 128 bits
abbrev pub narrow_symbol : World → Symbol → Payload → List ℤ → Option ℤ
narrow_symbol world symbols.Div payload parts = narrow (quotient (number_at parts 0) (number_at parts 1))
narrow_symbol world symbol payload parts = Some (symbol_number world symbol payload parts)

abbrev pub narrow_by : World → (Free → ℤ) → Op → List ℤ → Option ℤ
narrow_by world free ops.Plus parts = narrow (number_at parts 0 +ℤ number_at parts 1)
narrow_by world free ops.Times parts = narrow (number_at parts 0 *ℤ number_at parts 1)
narrow_by world free (ops.Of symbol payload) parts = narrow_symbol world symbol payload parts
narrow_by world free op parts = Some (number_by world free op parts)

-- a free term by a number and a truth; a character by the number
abbrev pub free_by : ℤ → Bool → Sort → ℤ
free_by number truth sorts.Number = number
free_by number truth sorts.Truth = number_of_truth truth
free_by number truth sorts.Character = pos (code_in number)
