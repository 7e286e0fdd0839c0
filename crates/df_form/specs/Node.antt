-- Nodes: terms and formulas, each an operation on nodes that stand before it.
use Rattle.std.specs.Prelude.{ℕ, Bool, true, false, ◌==◌, ◌&&◌, nat_eq, List, Option, position}
use Rattle.std.specs.Cmp.Lexicographic.{pointwise}
use Rattle.std.specs.Ordering.{int_eq}
use Rattle.df_lang.specs.declared.ty.Ty.{Ty}
use Rattle.df_form.specs.declared.node.Sort.{Sort}
use Rattle.df_form.specs.declared.node.Sort.TheVariants as sorts
use Rattle.df_form.specs.declared.node.Op.{Op}
use Rattle.df_form.specs.declared.node.Op.TheVariants as ops
use Rattle.df_form.specs.declared.node.Node as declared
use Rattle.df_form.specs.declared.symbol.Symbol.{Symbol}
use Rattle.df_form.specs.declared.symbol.Symbol.TheVariants as symbols
use Rattle.df_form.specs.declared.symbol.Payload.TheVariants as payloads
use Rattle.df_form.specs.Symbol.{same_symbol, same_payload}

-- an operation, and the numbers of its parts
pub record Node : Type 0 where
  pub op : Op
  pub parts : List ℕ

-- the code's node, without where it lies in memory
abbrev pub node_of : declared.Node → Node
node_of n = record { op = n.op; parts = n.parts.items }

-- a symbol with which nothing stands
abbrev pub symbol : Symbol → Op
symbol s = ops.Of s payloads.Nothing

-- that a value is of the type
abbrev pub test_of : Ty → Op
test_of ty = ops.Of symbols.Is (payloads.Type ty)

abbrev pub same_sort : Sort → Sort → Bool
same_sort sorts.Number sorts.Number = true
same_sort sorts.Truth sorts.Truth = true
same_sort sorts.Character sorts.Character = true
same_sort a b = false

abbrev pub same_op : Op → Op → Bool
same_op (ops.Number a) (ops.Number b) = int_eq a b
same_op (ops.Free a) (ops.Free b) = a.number == b.number && same_sort a.sort b.sort
same_op ops.Plus ops.Plus = true
same_op ops.Times ops.Times = true
same_op ops.Equal ops.Equal = true
same_op ops.AtMost ops.AtMost = true
same_op ops.Not ops.Not = true
same_op ops.And ops.And = true
same_op ops.Or ops.Or = true
same_op ops.Implies ops.Implies = true
same_op ops.Iff ops.Iff = true
same_op (ops.Of a stands) (ops.Of b other) = same_symbol a b && same_payload stands other
same_op a b = false

abbrev pub same_node : Node → Node → Bool
same_node a b = same_op a.op b.op && pointwise nat_eq a.parts b.parts

-- where the node stands: nodes are numbered from 0
abbrev pub number_of : List Node → Node → Option ℕ
number_of nodes node = position (same_node node) nodes
