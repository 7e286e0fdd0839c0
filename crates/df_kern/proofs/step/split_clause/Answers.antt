use Rattle.std.proofs.Common.{◌≡◌, ℤ, pos, ◌+ℤ◌, true, [], ◌∷◌, Some, sym, ap, ◌∙◌, rules}
use Rattle.std.proofs.lemmas.Int.{to_z-of_z}
use Rattle.df_form.specs.Clause.{yes}
use Rattle.df_row.specs.RowView.{narrow}
use Rattle.df_row.proofs.Rows.{passed}
use Rattle.df_rules.specs.Bound.{made_at_least, made_at_most}
use Rattle.df_rules.specs.Derivation.{is_number}
use Rattle.df_rules.proofs.Growth.{number-grows}
use Rattle.df_kern.proofs.Splitting.{number_is, split_made}
use Rattle.df_kern.proofs.step.split_clause.Goals as goal

pub at_most_of-requires : goal.at_most_of-requires
at_most_of-requires c = number_is c.args.nodes.now c.args.number (sym c.is_number.ensures ∙ c.if-not-is_number.false)

pub at_least_of-requires : goal.at_least_of-requires
at_least_of-requires c =
    number-grows c.args.nodes.now c.at_most_of.new.nodes c.args.number c.in_ok-below.ensures.grows (number_is c.args.nodes.now c.args.number (sym c.is_number.ensures ∙ c.if-not-is_number.false))

pub returns-clause-adds : goal.returns-clause-adds
returns-clause-adds c =
    let nodes = c.args.nodes.now in
    let n = c.args.number in
    let k = c.args.bound in
    let next = c.in-Some.next in
    let below = c.in_ok-below.below in
    let above = c.in_ok-above.above in
    let k_passes : passed k ≡ k = search (rules, to_z-of_z) in
    let next_passes : passed next ≡ next = search (rules, to_z-of_z) in
    let number : is_number nodes n ≡ true = sym c.is_number.ensures ∙ c.if-not-is_number.false in
    let fitting : narrow (k +ℤ pos 1) ≡ Some next = ap (λ x. narrow (x +ℤ pos 1)) (sym k_passes) ∙ sym c.next_of.ensures ∙ c.in-Some.is in
    let most : made_at_most nodes n k ≡ record { nodes = c.at_most_of.new.nodes; number = below } = ap (made_at_most nodes n) (sym k_passes) ∙ c.in_ok-below.ensures.made in
    let least : made_at_least c.at_most_of.new.nodes next n ≡ record { nodes = c.at_least_of.new.nodes; number = above } =
    ap (λ x. made_at_least c.at_most_of.new.nodes x n) (sym next_passes) ∙ c.in_ok-above.ensures.made
    in
    let items : c.in_ok-vec.field-0.items ≡ yes below ∷ yes above ∷ [] = c.in_ok-vec.ensures.items ∙ (λ i. c.yes_of.ensures i ∷ c.yes_of-2.ensures i ∷ []) in
    split_made nodes c.at_most_of.new.nodes c.at_least_of.new.nodes n below above k next number fitting most least ∙ (λ i. Some (record { nodes = c.at_least_of.new.nodes; clause = sym items i }))
