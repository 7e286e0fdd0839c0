-- The clauses of schemas hold, and those of splits.
use Rattle.std.proofs.Common.{◌≡◌, ℕ, ℤ, pos, ◌+ℤ◌, int_le, Bool, true, false, ◌&&◌, ◌||◌, List, length, Some, slice_get, nat_lt, refl, ap, ◌∙◌, arith, subst, ltb-true}
use Rattle.std.proofs.lemmas.Int.{ints}
use Rattle.std.proofs.lemmas.Option.{same_Some}
use Rattle.std.proofs.lemmas.Bool.{and_parts}
use Rattle.df_lemmas.proofs.Options.{test_some}
use Rattle.df_form.specs.World.{World}
use Rattle.df_meaning.specs.Value.{Number, number_of}
use Rattle.df_form.specs.declared.node.Sort.TheVariants as sorts
use Rattle.df_form.specs.Node.{Node, same_sort}
use Rattle.df_form.specs.Sorting.{sort_at}
use Rattle.df_form.specs.Truth.{Assignment, truth}
use Rattle.df_rules.specs.Bound.{number, at_most, made_at_least, made_at_most}
use Rattle.df_row.specs.Row.{fits}
use Rattle.df_rules.specs.Connective.{Added}
use Rattle.df_rules.specs.Derivation.{split_clause, is_number, split_line}
use Rattle.df_form.proofs.Values.{grows_twice, grown_get, AreSorted, value_is}
use Rattle.df_form.proofs.Making.{IsNumber, grown_number}
use Rattle.df_form.proofs.Same.{same_sort_equal}
use Rattle.df_rules.proofs.SoundNodes.{at_least_stands, at_most_stands}
use Rattle.df_axiom.specs.Line.{instance_line}
use Rattle.df_axiom.proofs.SchemaTruth.{line_kept}
use Rattle.df_rules.proofs.SoundClauses.{IsLine, holds_where}
use Rattle.df_rules.proofs.SoundConnectives.{at_most_truth, number_in, stands_below}

-- one of two neighbours bounds a number
split_true : (x k : ℤ) → (int_le x k || int_le (k +ℤ pos 1) x) ≡ true
split_true x k = next (int_le x k) refl
  where
    next : (b : Bool) → int_le x k ≡ b → (b || int_le (k +ℤ pos 1) x) ≡ true
    next true e = refl
    next false e = grind (arith, ints)

either_holds : (b c p q r s : Bool) → b ≡ true → c ≡ true → p ≡ r → q ≡ s → (r || s) ≡ true → ((b && p) || ((c && q) || false)) ≡ true
either_holds b c p q true s e f g h i = simp (e, f, g, h)
either_holds b c p q false true e f g h i = simp (e, f, g, h)
either_holds b c p q false false e f g h i = absurd cc

module _ (depth : ℕ) (world : World) (assignment : Assignment) where
  literal_is : (nodes : List Node) (n : ℕ) (k : ℤ) → AreSorted nodes → slice_get nodes n ≡ Some (number k) → number_in depth world assignment nodes n ≡ k
  literal_is nodes n k all e = ap number_of (value_is depth world assignment nodes n (number k) all e)

  -- k <= n, and n <= k
  pub at_least_truth : (nodes : List Node) (literal m n : ℕ) (k : ℤ) → AreSorted nodes → slice_get nodes literal ≡ Some (number k) → slice_get nodes m ≡ Some (at_most literal n)
      → truth depth world assignment nodes m ≡ int_le k (number_in depth world assignment nodes n)
  at_least_truth nodes literal m n k all e f = at_most_truth depth world assignment nodes m literal n all f ∙ ap (λ z. int_le z (number_in depth world assignment nodes n)) (literal_is nodes literal k all e)

  pub up_to_truth : (nodes : List Node) (literal m n : ℕ) (k : ℤ) → AreSorted nodes → slice_get nodes literal ≡ Some (number k) → slice_get nodes m ≡ Some (at_most n literal)
      → truth depth world assignment nodes m ≡ int_le (number_in depth world assignment nodes n) k
  up_to_truth nodes literal m n k all e f = at_most_truth depth world assignment nodes m n literal all f ∙ ap (λ z. int_le (number_in depth world assignment nodes n) z) (literal_is nodes literal k all e)

  pub schema_is_line : (nodes : List Node) (schema k : ℕ) (terms : List ℕ) (added : Added) → AreSorted nodes → instance_line world nodes schema k terms ≡ Some added → IsLine depth world assignment nodes added
  schema_is_line nodes schema k terms added all line =
      let kept = line_kept depth world assignment nodes schema k terms added all line in
      record { grows = kept.grows; sorted = kept.sorted; holds = holds_where depth world assignment added.nodes added.clause kept.formulas kept.holds }

  pub split_is_line : (nodes : List Node) (n : ℕ) (k : ℤ) (added : Added) → AreSorted nodes → split_line nodes n k ≡ Some added → IsLine depth world assignment nodes added
  split_is_line nodes n k added all line =
      let tested = test_some (is_number nodes n && fits (k +ℤ pos 1)) (Some (split_clause nodes n k)) added line in
      let number_and_fits = and_parts (is_number nodes n) (fits (k +ℤ pos 1)) tested.0 in
      let parts = and_parts (nat_lt n (length nodes)) (same_sort (sort_at nodes n) sorts.Number) number_and_fits.0 in
      let is : IsNumber nodes n = record { below = ltb-true n (length nodes) parts.0; sort = same_sort_equal (sort_at nodes n) sorts.Number parts.1 } in
      let below = made_at_most nodes n k in
      let above = made_at_least below.nodes (k +ℤ pos 1) n in
      let now = above.nodes in
      let first = at_most_stands nodes n k all is in
      let second = at_least_stands below.nodes (k +ℤ pos 1) n first.sorted (grown_number nodes below.nodes first.grows n is) in
      let below_there = grown_get below.nodes now second.grows below.number (at_most n first.literal) first.there in
      let one = up_to_truth now first.literal below.number n k second.sorted (grown_get below.nodes now second.grows first.literal (number k) first.literal_there) below_there in
      let other = at_least_truth now second.literal above.number n (k +ℤ pos 1) second.sorted second.literal_there second.there in
      let holds = either_holds _ _ _ _ _ _ (stands_below depth world assignment now below.number (at_most n first.literal) below_there)
      (stands_below depth world assignment now above.number (at_most second.literal n) second.there) one other (split_true (number_in depth world assignment now n) k) in
      subst (IsLine depth world assignment nodes) (same_Some _ added tested.1) (record { grows = grows_twice nodes below.nodes now first.grows second.grows; sorted = second.sorted; holds = holds })
