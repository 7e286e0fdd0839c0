-- An operation gives a value of its sort.
use Rattle.std.proofs.Common.{◌≡◌, ℕ, ◌<◌, true, List, map, length, refl, ◌∙◌}
use Rattle.df_lemmas.proofs.Lists.{get_below}
use Rattle.df_form.specs.World.{World}
use Rattle.df_meaning.specs.Value.{Value}
use Rattle.df_form.specs.declared.node.Op.{Op}
use Rattle.df_form.specs.declared.node.Op.TheVariants as ops
use Rattle.df_form.specs.declared.symbol.Symbol.{Symbol}
use Rattle.df_form.specs.declared.symbol.Symbol.TheVariants as symbol
use Rattle.df_form.specs.declared.symbol.Payload.{Payload}
use Rattle.df_form.specs.Symbol.{symbols, same_symbol, filled, given_by}
use Rattle.df_form.specs.Node.{Node}
use Rattle.df_form.specs.Sorting.{sort_of, sort_at}
use Rattle.df_form.specs.Truth.{Assignment, has_sort, number_at, code_below, applied, apply}
use Rattle.df_form.proofs.Drafts.{sort_here}
use Rattle.df_form.proofs.Values.{AreSorted, worth, value_is}

symbol_sorted : (world : World) (symbol : Symbol) (payload : Payload) (parts : List Value) → has_sort (filled payload (given_by symbol)) (applied world symbol payload parts) ≡ true
unfolding symbols same_symbol
symbol_sorted world symbol.Chr payload parts = code_below (number_at parts 0)
symbol_sorted world symbol payload parts = refl

pub apply_sorted : (depth : ℕ) (world : World) (assignment : Assignment) (op : Op) (parts : List Value) → has_sort (sort_of op) (apply depth world assignment op parts) ≡ true
apply_sorted depth world assignment (ops.Free free) parts = assignment.sorted free
apply_sorted depth world assignment (ops.Of symbol payload) parts = symbol_sorted world symbol payload parts
apply_sorted depth world assignment op parts = refl

-- and so has its node
pub worth_sorted : (depth : ℕ) (world : World) (assignment : Assignment) (nodes : List Node) → AreSorted nodes → (n : ℕ) → n < length nodes → has_sort (sort_at nodes n) (worth depth world assignment nodes n) ≡ true
worth_sorted depth world assignment nodes sorted n less =
    let at = get_below nodes n less in
    let value = value_is depth world assignment nodes n at.0 sorted at.1 in
    let sort = sort_here nodes n at.0 at.1 in
    (λ i. has_sort (sort i) (value i)) ∙ apply_sorted depth world assignment at.0.op (map (worth depth world assignment nodes) at.0.parts)
