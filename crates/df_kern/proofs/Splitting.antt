-- A split of a number at a bound, from the nodes that it makes.
use Rattle.std.proofs.Common.{◌≡◌, ℕ, ℤ, pos, ◌+ℤ◌, true, cond, nat_lt, List, [], ◌∷◌, length, Some, None, ap, ◌∙◌}
use Rattle.std.proofs.lemmas.Bool.{and_parts, and_from, ltb-true}
use Rattle.std.proofs.lemmas.Option.{cond_some}
use Rattle.df_form.specs.declared.node.Sort.TheVariants as sorts
use Rattle.df_form.specs.Node.{Node, same_sort}
use Rattle.df_form.specs.Sorting.{sort_at}
use Rattle.df_form.specs.Made.{Made}
use Rattle.df_form.specs.Clause.{yes}
use Rattle.df_form.proofs.Same.{same_sort_equal}
use Rattle.df_axiom.specs.Instance.{Added}
use Rattle.df_row.specs.Row.{fits}
use Rattle.df_row.specs.RowView.{narrow}
use Rattle.df_rules.specs.Bound.{made_at_least, made_at_most}
use Rattle.df_rules.specs.Derivation.{is_number, split_clause, split_line}
use Rattle.df_rules.specs.Growth.{IsNumber}

-- what the test of a number says
pub number_is : (nodes : List Node) (n : ℕ) → is_number nodes n ≡ true → IsNumber nodes n
number_is nodes n h =
    let both = and_parts (nat_lt n (length nodes)) (same_sort (sort_at nodes n) sorts.Number) h in
    (ltb-true n (length nodes) both.0, same_sort_equal (sort_at nodes n) sorts.Number both.1)

pub split_made : (nodes below above : List Node) (n low high : ℕ) (k next : ℤ) → is_number nodes n ≡ true → narrow (k +ℤ pos 1) ≡ Some next
    → made_at_most nodes n k ≡ record { nodes = below; number = low } → made_at_least below next n ≡ record { nodes = above; number = high }
    → split_line nodes n k ≡ Some (record { nodes = above; clause = yes low ∷ yes high ∷ [] })
split_made nodes below above n low high k next number fitting most least =
    let both = cond_some (fits (k +ℤ pos 1)) (k +ℤ pos 1) next fitting in
    let after : Made → Added = λ m. record { nodes = (made_at_least m.nodes (k +ℤ pos 1) n).nodes; clause = yes m.number ∷ yes (made_at_least m.nodes (k +ℤ pos 1) n).number ∷ [] } in
    let ends : Made → Added = λ m. record { nodes = m.nodes; clause = yes low ∷ yes m.number ∷ [] } in
    ap (λ t. cond t (Some (split_clause nodes n k)) None) (and_from (is_number nodes n) (fits (k +ℤ pos 1)) number both.0)
    ∙ ap Some (ap after most ∙ ap (λ x. ends (made_at_least below x n)) both.1 ∙ ap ends least)
