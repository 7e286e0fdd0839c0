use Rattle.std.proofs.Common.{◌≡◌, ◌∙◌, ◌∷◌, [], sym, subst, slice_index_or, take, true}
use Rattle.df_form.specs.declared.node.Op.TheVariants as ops
use Rattle.df_form.specs.Node.{Node, node_of}
use Rattle.df_form.specs.Sorting.{is_well_sorted}
use Rattle.df_rules.proofs.Growth.{equality-numbers, two}
use Rattle.df_rules.proofs.connecting.sides.Goals as goal

pub returns-in-Number-clause-numbers : goal.returns-in-Number-clause-numbers
returns-in-Number-clause-numbers c =
    let parts = c.as_slice.result.now in
    let a = slice_index_or parts 0 0 in
    let b = slice_index_or parts 1 0 in
    let pair : parts ≡ a ∷ b ∷ [] = two parts c.in-Equal-len2.len_at_least c.in-Equal-len2.len_below in
    let same : c.in_ok-node.node.now.parts.items ≡ a ∷ b ∷ [] = sym c.as_slice.ensures.value ∙ pair in
    let node : node_of c.in_ok-node.node.now ≡ record { op = ops.Equal; parts = a ∷ b ∷ [] } = λ i. record { op = c.in-Equal-len2.is-0 i; parts = same i } in
    let sorted = subst (λ (n : Node). is_well_sorted (take c.args.number c.args.nodes.now) n ≡ true) node c.in_ok-node.ensures.sorted in
    equality-numbers c.args.nodes.now c.args.number a b sorted (sym c.in-Number.ensures)
