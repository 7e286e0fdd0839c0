-- Nodes that are made: they stand where the answer says, well sorted after those before them.
use Rattle.std.proofs.Common.{◌≡◌, ℕ, ◌<◌, true, List, length, get_or, Option, Some, None, slice_get, refl, sym, ap, ◌∙◌, arith}
use Rattle.std.proofs.lemmas.Option.{slice_get-get_or, slice_get_within}
use Rattle.std.proofs.lemmas.List.Quantifiers.{position-Some}
use Rattle.df_form.proofs.Drafts.{sort_here}
use Rattle.df_lemmas.proofs.Lists.{get_last}
use Rattle.df_form.specs.declared.node.Sort.TheVariants as sorts
use Rattle.df_form.specs.Node.{Node, same_node, number_of}
use Rattle.df_form.specs.Sorting.{sort_at, sort_of, is_well_sorted}
use Rattle.df_form.specs.Made.{Made, made, made_where}
use Rattle.df_form.proofs.Same.{same_node_equal}
use Rattle.df_form.proofs.Values.{Grows, grows_not, grows_by, grown_length, grown_sort, AreSorted, one_more_sorted}
pub use Rattle.df_form.proofs.Drafts.{sort_here as sort_is}

-- the node that was asked for stands at its number, among nodes that begin with those before
pub record Stands (nodes : List Node) (node : Node) (m : Made) : Type 0 where
  pub grows : Grows nodes m.nodes
  pub sorted : AreSorted m.nodes
  pub there : slice_get m.nodes m.number ≡ Some node

stands_where : (nodes : List Node) (node : Node) (found : Option ℕ) → number_of nodes node ≡ found → AreSorted nodes → is_well_sorted nodes node ≡ true → Stands nodes node (made_where nodes node found)
stands_where nodes node (Some n) e all one =
    let place = position-Some (same_node node) nodes n node e in
    let same = same_node_equal node (get_or nodes n node) place.1 in
    record { grows = grows_not nodes; sorted = all; there = slice_get-get_or nodes n node place.0 ∙ ap (λ z. Some z) (sym same) }
stands_where nodes node None e all one = record { grows = grows_by nodes node; sorted = one_more_sorted nodes node all one; there = get_last nodes node }

pub made_stands : (nodes : List Node) (node : Node) → AreSorted nodes → is_well_sorted nodes node ≡ true → Stands nodes node (made nodes node)
made_stands nodes node all one = stands_where nodes node (number_of nodes node) refl all one

-- a number stands in a list of nodes
pub record IsNumber (nodes : List Node) (n : ℕ) : Type 0 where
  pub below : n < length nodes
  pub sort : sort_at nodes n ≡ sorts.Number

pub grown_number : (before now : List Node) → Grows before now → (n : ℕ) → IsNumber before n → IsNumber now n
grown_number before now g n h = let le = grown_length before now g in record { below = omega arith; sort = grown_sort before now g n h.below ∙ h.sort }

pub number_of_op : (nodes : List Node) (n : ℕ) (node : Node) → slice_get nodes n ≡ Some node → sort_of node.op ≡ sorts.Number → IsNumber nodes n
number_of_op nodes n node e is = record { below = slice_get_within nodes n node e; sort = sort_here nodes n node e ∙ is }
