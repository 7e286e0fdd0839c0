-- Tables of the numbers of the first nodes.
use Rattle.std.proofs.Common.{◌≡◌, ℕ, ◌+◌, ◌<◌, ◌≤◌, ℤ, pos, ◌+ℤ◌, ◌*ℤ◌, Bool, true, false, List, [], ◌∷◌, ◌++◌, map, length, None, Some, slice_get, nat_lt, refl, sym, ap, ◌∙◌, arith, cond, ltb-true}
use Rattle.std.proofs.lemmas.List.{length-append, get_or_append_left, get_or_push, ext_get_or}
use Rattle.std.proofs.lemmas.Option.{same_Some, slice_get_within, none-some}
use Rattle.df_row.proofs.RowNarrow.{unfit}
use Rattle.df_lemmas.proofs.Lists.{get_below, map_agree}
use Rattle.df_form.specs.World.{World}
use Rattle.df_form.specs.declared.node.Free.{Free}
use Rattle.df_form.specs.declared.node.Op.{Op}
use Rattle.df_form.specs.declared.node.Op.TheVariants as ops
use Rattle.df_form.specs.Node.{Node}
use Rattle.df_form.specs.Sorting.{IsTable}
use Rattle.df_form.specs.declared.symbol.Symbol.{Symbol}
use Rattle.df_form.specs.declared.symbol.Symbol.TheVariants as symbols
use Rattle.df_form.specs.declared.symbol.Payload.{Payload}
use Rattle.df_form.specs.Truth.{Assignment, quotient}
use Rattle.df_form.proofs.Values.{parts_below}
use Rattle.df_row.specs.Row.{fits}
use Rattle.df_row.specs.RowView.{narrow}
use Rattle.df_table.specs.TableModel.{number_at}
use Rattle.df_model.specs.Valuation.{number_of_value, assignment_of, numbers_of_nodes, IsWide}
use Rattle.df_model.specs.Numbers.{symbol_number, narrow_symbol, number_by, narrow_by, free_by}
use Rattle.df_model.proofs.NodeNumbers.{number_in, number_is, table_number, table_length}
use Rattle.df_model.proofs.Atoms.{free_number}

-- a table has the numbers of the first nodes
pub record IsTabled (world : World) (assignment : Assignment) (nodes : List Node) (table : List ℤ) : Type 0 where
  pub short : length table ≤ length nodes
  pub numbers : (depth n : ℕ) → n < length table → number_at table n ≡ number_in depth world assignment nodes n

narrow_some : (z y : ℤ) → narrow z ≡ Some y → z ≡ y
narrow_some z y e = by (fits z) e
  where
    by : (b : Bool) → cond b (Some z) None ≡ Some y → z ≡ y
    by true e = same_Some z y e
    by false e = absurd cc

symbol_some : (world : World) (symbol : Symbol) (payload : Payload) (parts : List ℤ) (z : ℤ) → narrow_symbol world symbol payload parts ≡ Some z → symbol_number world symbol payload parts ≡ z
symbol_some world symbols.Div payload parts z e = narrow_some (quotient (number_at parts 0) (number_at parts 1)) z e
symbol_some world symbol payload parts z e = same_Some _ z e

symbol_none : (world : World) (symbol : Symbol) (payload : Payload) (parts : List ℤ) → narrow_symbol world symbol payload parts ≡ None → fits (symbol_number world symbol payload parts) ≡ false
symbol_none world symbols.Div payload parts e = unfit (quotient (number_at parts 0) (number_at parts 1)) e
symbol_none world symbol payload parts e = absurd cc

-- the number, where it has 128 bits
number_some : (world : World) (free : Free → ℤ) (op : Op) (parts : List ℤ) (z : ℤ) → narrow_by world free op parts ≡ Some z → number_by world free op parts ≡ z
number_some world free ops.Plus parts z e = narrow_some (number_at parts 0 +ℤ number_at parts 1) z e
number_some world free ops.Times parts z e = narrow_some (number_at parts 0 *ℤ number_at parts 1) z e
number_some world free (ops.Of symbol payload) parts z e = symbol_some world symbol payload parts z e
number_some world free op parts z e = same_Some _ z e

number_none : (world : World) (free : Free → ℤ) (op : Op) (parts : List ℤ) → narrow_by world free op parts ≡ None → fits (number_by world free op parts) ≡ false
number_none world free ops.Plus parts e = unfit (number_at parts 0 +ℤ number_at parts 1) e
number_none world free ops.Times parts e = unfit (number_at parts 0 *ℤ number_at parts 1) e
number_none world free (ops.Of symbol payload) parts e = symbol_none world symbol payload parts e
number_none world free op parts e = absurd cc

-- only a free term looks at the numbers of free terms
same_free : (world : World) (f g : Free → ℤ) (op : Op) (parts : List ℤ) → ((free : Free) → op ≡ ops.Free free → f free ≡ g free) → number_by world f op parts ≡ number_by world g op parts
same_free world f g (ops.Free free) parts same = same free refl
same_free world f g op parts same = refl

pub tabled_none : (world : World) (assignment : Assignment) (nodes : List Node) (table : List ℤ) → table ≡ [] → IsTabled world assignment nodes table
tabled_none world assignment nodes table e = let long = ap (λ (all : List ℤ). length all) e in record { short = omega arith; numbers = λ depth n less. absurd (omega arith) }

module _ (world : World) (numbers : ℕ → ℤ) (truths : ℕ → Bool) (nodes : List Node) (table : List ℤ) (n : ℕ) (node : Node)
    (is_table : IsTable nodes) (has : IsTabled world (assignment_of nodes numbers truths) nodes table) (next : length table ≡ n) (at : slice_get nodes n ≡ Some node) where
  abbrev free_here : Free → ℤ
  free_here free = free_by (numbers n) (truths n) free.sort

  next_is : (depth : ℕ) → number_in depth world (assignment_of nodes numbers truths) nodes n ≡ number_by world free_here node.op (map (number_at table) node.parts)
  next_is depth =
      let assignment = assignment_of nodes numbers truths in
      let parts = map_agree (λ p. nat_lt p n) (number_at table) (number_in depth world assignment nodes) node.parts (λ p below. has.numbers depth p (omega (arith, ltb-true p n below))) (parts_below nodes n node (record { sorted = is_table.sorted }) at) in
      number_is depth world assignment nodes n node (record { sorted = is_table.sorted }) at
      ∙ same_free world (λ free. number_of_value (assignment.value free)) free_here node.op (map (number_in depth world assignment nodes) node.parts) (λ free is. free_number numbers truths nodes n node free is_table at is)
      ∙ ap (number_by world free_here node.op) (sym parts)

  pub tabled_more : (z : ℤ) (longer : List ℤ) → narrow_by world free_here node.op (map (number_at table) node.parts) ≡ Some z → longer ≡ table ++ z ∷ [] → IsTabled world (assignment_of nodes numbers truths) nodes longer
  tabled_more z longer e is =
      let long = ap (λ (all : List ℤ). length all) is ∙ length-append table (z ∷ []) in
      let within = slice_get_within nodes n node at in
      record { short = omega arith; numbers = λ depth m less. ap (λ (all : List ℤ). number_at all m) is ∙ by depth m (omega (arith, less)) }
    where
      by : (depth m : ℕ) → m < length table + 1 → number_at (table ++ z ∷ []) m ≡ number_in depth world (assignment_of nodes numbers truths) nodes m
      by depth m less = case (nat_lt m (length table)) refl
        where
          case : (b : Bool) → nat_lt m (length table) ≡ b → number_at (table ++ z ∷ []) m ≡ number_in depth world (assignment_of nodes numbers truths) nodes m
          case true before = let inside = ltb-true m (length table) before in get_or_append_left table (z ∷ []) (pos 0) m inside ∙ has.numbers depth m inside
          case false before =
              let last : length table ≡ m = grind arith in
              get_or_push table z (pos 0) m last ∙ sym (number_some world free_here node.op (map (number_at table) node.parts) z e) ∙ sym (next_is depth)
              ∙ ap (number_in depth world (assignment_of nodes numbers truths) nodes) (sym next ∙ last)

  pub tabled_wide : narrow_by world free_here node.op (map (number_at table) node.parts) ≡ None → IsWide world (assignment_of nodes numbers truths) nodes
  tabled_wide e = record {
    node = n;
    wide = λ depth. ap fits (table_number depth world (assignment_of nodes numbers truths) nodes n ∙ next_is depth) ∙ number_none world free_here node.op (map (number_at table) node.parts) e;
  }

pub tabled_all : (world : World) (assignment : Assignment) (nodes : List Node) (table : List ℤ) → IsTabled world assignment nodes table → slice_get nodes (length table) ≡ None → (depth : ℕ) → table ≡ numbers_of_nodes depth world assignment nodes
tabled_all world assignment nodes table has e depth =
    ext_get_or (pos 0) table (numbers_of_nodes depth world assignment nodes) (long ∙ sym (table_length depth world assignment nodes))
    (λ n less. has.numbers depth n less ∙ sym (table_number depth world assignment nodes n))
  where
    long : length table ≡ length nodes
    long = by (nat_lt (length table) (length nodes)) refl
      where
        by : (b : Bool) → nat_lt (length table) (length nodes) ≡ b → length table ≡ length nodes
        by true less = let at = get_below nodes (length table) (ltb-true (length table) (length nodes) less) in absurd (none-some at.0 (sym e ∙ at.1))
        by false past = let least = has.short in grind arith
