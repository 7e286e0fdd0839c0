-- The number of a node is that of its operation at the numbers of its parts.
use Rattle.std.proofs.Common.{◌≡◌, ℕ, ◌+◌, ℤ, pos, true, List, [], ◌∷◌, ◌++◌, map, length, Some, slice_get, nat_lt, refl, sym, ap, ◌∙◌, subst, arith, ltb-true}
use Rattle.std.proofs.lemmas.List.{length-map, length-append}
use Rattle.std.proofs.Math.ListN.{get_or-map}
use Rattle.df_form.proofs.Drafts.{sort_here}
use Rattle.df_lemmas.proofs.Lists.{get_below}
use Rattle.df_form.specs.World.{World}
use Rattle.df_meaning.specs.Value.{Value, Number}
use Rattle.df_form.specs.declared.node.Sort.{Sort}
use Rattle.df_form.specs.declared.node.Sort.TheVariants as sorts
use Rattle.df_form.specs.declared.node.Op.{Op}
use Rattle.df_form.specs.declared.node.Op.TheVariants as ops
use Rattle.df_form.specs.Node.{Node}
use Rattle.df_form.specs.Sorting.{sort_at, sort_of}
use Rattle.df_form.specs.Truth.{Assignment, has_sort, apply, values_after, values, value_at, truth}
use Rattle.df_form.proofs.Values.{AreSorted, parts_taken, worth, value_is}
use Rattle.df_form.proofs.Sorts.{apply_sorted}
use Rattle.df_rules.proofs.SoundConnectives.{each_below}
use Rattle.df_table.specs.TableModel.{number_at, is_true}
use Rattle.df_model.specs.Valuation.{number_of_value, numbers_of_nodes}
use Rattle.df_model.specs.Numbers.{counts_as_true, number_by}
use Rattle.df_model.proofs.Applying.{truth_is, applied}

module _ (depth : ℕ) (world : World) (assignment : Assignment) where
  -- the number of a node
  abbrev pub number_in : List Node → ℕ → ℤ
  number_in nodes n = number_of_value (worth depth world assignment nodes n)

  pub table_number : (nodes : List Node) (n : ℕ) → number_at (numbers_of_nodes depth world assignment nodes) n ≡ number_in nodes n
  table_number nodes n = get_or-map number_of_value (values depth world assignment nodes) n (Number (pos 0))

  length_after : (known : List Value) (nodes : List Node) → length (values_after depth world assignment known nodes) ≡ length known + length nodes
  length_after known [] = omega arith
  length_after known (node ∷ nodes) =
      let value = apply depth world assignment node.op (map (value_at known) node.parts) in
      let rest = length_after (known ++ value ∷ []) nodes in
      let one = length-append known (value ∷ []) in
      omega arith

  zero-add : (n : ℕ) → 0 + n ≡ n
  zero-add n = omega arith

  pub table_length : (nodes : List Node) → length (numbers_of_nodes depth world assignment nodes) ≡ length nodes
  table_length nodes = length-map (values depth world assignment nodes) number_of_value ∙ (length_after [] nodes ∙ zero-add (length nodes))

  -- a value has the sort of its node
  pub worth_sorted : (nodes : List Node) → AreSorted nodes → (n : ℕ) → nat_lt n (length nodes) ≡ true → has_sort (sort_at nodes n) (worth depth world assignment nodes n) ≡ true
  worth_sorted nodes all n below =
      let at = get_below nodes n (ltb-true n (length nodes) below) in
      let value = value_is depth world assignment nodes n at.0 all at.1 in
      let sort = sort_here nodes n at.0 at.1 in
      let here = apply_sorted depth world assignment at.0.op (map (worth depth world assignment nodes) at.0.parts) in
      (λ i. has_sort (sort i) (value i)) ∙ here

  pub number_is : (nodes : List Node) (n : ℕ) (node : Node) → AreSorted nodes → slice_get nodes n ≡ Some node
      → number_in nodes n ≡ number_by world (λ free. number_of_value (assignment.value free)) node.op (map (number_in nodes) node.parts)
  number_is nodes n node all e =
      ap number_of_value (value_is depth world assignment nodes n node all e)
      ∙ applied (worth depth world assignment nodes) (sort_at nodes) (λ p. nat_lt p (length nodes)) (worth_sorted nodes all) depth world assignment node.op node.parts
      (each_below depth world assignment nodes n node all e) (parts_taken nodes n node all e)

  -- a formula is true where its number is at least 1
  pub table_truth : (nodes : List Node) → AreSorted nodes → (n : ℕ) → nat_lt n (length nodes) ≡ true → sort_at nodes n ≡ sorts.Truth → is_true (numbers_of_nodes depth world assignment nodes) n ≡ truth depth world assignment nodes n
  table_truth nodes all n below sort =
      let sorted = subst (λ (s : Sort). has_sort s (worth depth world assignment nodes n) ≡ true) sort (worth_sorted nodes all n below) in
      ap counts_as_true (table_number nodes n) ∙ sym (truth_is (worth depth world assignment nodes n) sorted)
