-- The trees that nodes stand for.
use Rattle.std.specs.Prelude.{ℕ, pos, List, [], ◌∷◌, ◌++◌, map, slice_index_or, Option}
use Rattle.std.specs.Option.{option_map}
use Rattle.df_form.specs.declared.node.Sort.{Sort}
use Rattle.df_form.specs.declared.node.Sort.TheVariants as sorts
use Rattle.df_form.specs.declared.node.Op.{Op}
use Rattle.df_form.specs.declared.node.Op.TheVariants as ops
use Rattle.df_form.specs.declared.symbol.Symbol.{Symbol}
use Rattle.df_form.specs.declared.symbol.Symbol.TheVariants as symbols
use Rattle.df_form.specs.declared.symbol.Payload.{Payload}
use Rattle.df_form.specs.Symbol.{type_in}
use Rattle.df_form.specs.Node.{Node}
use Rattle.df_nterm.specs.Term.{Term, node, terms_of, literal}
use Rattle.df_nterm.specs.Term as trees

-- ---- the same sorts and operations

abbrev pub sort_of : Sort → trees.Sort
sort_of sorts.Number = trees.Numbers
sort_of sorts.Truth = trees.Truths
sort_of sorts.Character = trees.Characters

abbrev pub of_symbol : Symbol → Payload → trees.Op
of_symbol symbols.Div payload = trees.Div
of_symbol symbols.Mod payload = trees.Mod
of_symbol symbols.Code payload = trees.Code
of_symbol symbols.Chr payload = trees.Chr
of_symbol symbols.Is payload = trees.Is (type_in payload)

abbrev pub op_of : Op → trees.Op
op_of (ops.Number n) = trees.Number n
op_of (ops.Free free) = trees.FreeTerm (record { number = free.number; sort = sort_of free.sort })
op_of ops.Plus = trees.Plus
op_of ops.Times = trees.Times
op_of (ops.Of symbol payload) = of_symbol symbol payload
op_of ops.Equal = trees.Equal
op_of ops.AtMost = trees.AtMost
op_of ops.Not = trees.Not
op_of ops.And = trees.And
op_of ops.Or = trees.Or
op_of ops.Implies = trees.Implies
op_of ops.Iff = trees.Iff

-- the sort of the value that an operation gives
abbrev pub sort_of_op : trees.Op → trees.Sort
sort_of_op (trees.Number n) = trees.Numbers
sort_of_op (trees.FreeTerm free) = free.sort
sort_of_op trees.Plus = trees.Numbers
sort_of_op trees.Times = trees.Numbers
sort_of_op trees.Div = trees.Numbers
sort_of_op trees.Mod = trees.Numbers
sort_of_op trees.Code = trees.Numbers
sort_of_op trees.Chr = trees.Characters
sort_of_op op = trees.Truths

abbrev pub sort_of_term : Term → trees.Sort
sort_of_term (node op parts) = sort_of_op op

-- ---- the trees of nodes

-- the tree at a place of the list; past its end it is the number 0
abbrev pub tree_among : List Term → ℕ → Term
tree_among known n = slice_index_or known n (literal (pos 0))

-- the operation on the trees of its parts
abbrev pub tree_over : List Term → Node → Term
tree_over known one = node (op_of one.op) (terms_of (map (tree_among known) one.parts))

-- each from those of its parts, after the trees of the nodes before them
abbrev pub trees_after : List Term → List Node → List Term
trees_after known [] = known
trees_after known (one ∷ nodes) = trees_after (known ++ tree_over known one ∷ []) nodes

-- the tree that the node of a number stands for
unfoldable pub tree_at : List Node → ℕ → Term
tree_at nodes n = tree_among (trees_after [] nodes) n

abbrev pub trees_at : List Node → List ℕ → List Term
trees_at nodes ns = map (tree_at nodes) ns

-- the tree of each local, by the list of their terms; a local that is not among them has the number 0
abbrev pub trees_in : List Node → List ℕ → ℕ → Term
trees_in nodes ns = λ place. tree_among (trees_at nodes ns) place

-- the formula of a place, if not all runs come there
abbrev pub path_in : List Node → Option ℕ → Option Term
path_in nodes path = option_map (tree_at nodes) path
