-- Free terms have what stands at their nodes.
use Rattle.std.proofs.Common.{◌≡◌, ℕ, ℤ, Bool, true, List, [], ◌∷◌, map, Option, Some, slice_get, refl, ap, ◌∙◌}
use Rattle.df_form.specs.World.{World}
use Rattle.df_meaning.specs.Value.{truth_of, number_of}
use Rattle.df_form.specs.declared.node.Sort.{Sort}
use Rattle.df_form.specs.declared.node.Sort.TheVariants as sorts
use Rattle.df_form.specs.declared.node.Free.{Free}
use Rattle.df_form.specs.declared.node.Op.{Op}
use Rattle.df_form.specs.declared.node.Op.TheVariants as ops
use Rattle.df_form.specs.Node.{Node}
use Rattle.df_form.specs.Sorting.{IsTable, are_none, sort_at}
use Rattle.df_form.specs.Truth.{values, truth}
use Rattle.df_form.specs.Truth as truths
use Rattle.df_form.proofs.Tables.{number_of_at}
use Rattle.df_form.proofs.Values.{AreSorted, parts_taken, worth, value_is}
use Rattle.df_model.specs.Valuation.{number_of_value, value_by, place_of, assignment_of}
use Rattle.df_model.specs.Numbers.{free_by}

abbrev free_node : Free → Node
free_node free = record { op = ops.Free free; parts = [] }

pub no_parts : (sort : ℕ → Sort) (parts : List ℕ) → are_none (map sort parts) ≡ true → parts ≡ []
no_parts sort [] e = refl
no_parts sort (p ∷ parts) e = absurd cc

free_is : (nodes : List Node) (n : ℕ) (op : Op) (parts : List ℕ) (free : Free) → AreSorted nodes → slice_get nodes n ≡ Some (record { op = op; parts = parts }) → op ≡ ops.Free free → slice_get nodes n ≡ Some (free_node free)
free_is nodes n op parts free sorted e is =
    let here : slice_get nodes n ≡ Some (record { op = ops.Free free; parts = parts }) = e ∙ (λ i. Some (record { op = is i; parts = parts })) in
    let none = no_parts (sort_at nodes) parts (parts_taken nodes n (record { op = ops.Free free; parts = parts }) sorted here) in
    here ∙ (λ i. Some (record { op = ops.Free free; parts = none i }))

module _ (numbers : ℕ → ℤ) (truths_at : ℕ → Bool) where
  value_here : (sort : Sort) (n : ℕ) → number_of_value (value_by numbers truths_at sort (Some n)) ≡ free_by (numbers n) (truths_at n) sort
  value_here sorts.Number n = refl
  value_here sorts.Truth n = refl
  value_here sorts.Character n = refl

  place_is : (nodes : List Node) (n : ℕ) (free : Free) → IsTable nodes → slice_get nodes n ≡ Some (free_node free) → place_of nodes free ≡ Some n
  place_is nodes n free table e = number_of_at nodes (free_node free) n table.distinct e

  -- the number of a free term by its node
  pub free_number : (nodes : List Node) (n : ℕ) (node : Node) (free : Free) → IsTable nodes → slice_get nodes n ≡ Some node → node.op ≡ ops.Free free
      → number_of_value ((assignment_of nodes numbers truths_at).value free) ≡ free_by (numbers n) (truths_at n) free.sort
  free_number nodes n node free table e is =
      let here = free_is nodes n node.op node.parts free (record { sorted = table.sorted }) e is in
      ap (λ (place : Option ℕ). number_of_value (value_by numbers truths_at free.sort place)) (place_is nodes n free table here) ∙ value_here free.sort n

  worth_here : (depth : ℕ) (world : World) (nodes : List Node) (n : ℕ) (free : Free) → IsTable nodes → slice_get nodes n ≡ Some (free_node free) → worth depth world (assignment_of nodes numbers truths_at) nodes n ≡ value_by numbers truths_at free.sort (Some n)
  worth_here depth world nodes n free table e =
      value_is depth world (assignment_of nodes numbers truths_at) nodes n (free_node free) (record { sorted = table.sorted }) e ∙ ap (value_by numbers truths_at free.sort) (place_is nodes n free table e)

  pub number_follows : (depth : ℕ) (world : World) (nodes : List Node) (n : ℕ) (free : Free) → IsTable nodes → slice_get nodes n ≡ Some (free_node free) → free.sort ≡ sorts.Number
      → truths.number_at (values depth world (assignment_of nodes numbers truths_at) nodes) n ≡ numbers n
  number_follows depth world nodes n free table e sort =
      ap number_of (worth_here depth world nodes n free table e) ∙ ap (λ (s : Sort). number_of (value_by numbers truths_at s (Some n))) sort

  pub truth_follows : (depth : ℕ) (world : World) (nodes : List Node) (n : ℕ) (free : Free) → IsTable nodes → slice_get nodes n ≡ Some (free_node free) → free.sort ≡ sorts.Truth
      → truth depth world (assignment_of nodes numbers truths_at) nodes n ≡ truths_at n
  truth_follows depth world nodes n free table e sort =
      ap truth_of (worth_here depth world nodes n free table e) ∙ ap (λ (s : Sort). truth_of (value_by numbers truths_at s (Some n))) sort
