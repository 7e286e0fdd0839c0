use Rattle.std.proofs.Common.{◌≡◌, ◌∙◌, ap, length, pos, negsuc, rules}
use Rattle.std.proofs.lemmas.Int.{to_z-of_z}
use Rattle.df_form.specs.Offset.{offset_of}
use Rattle.df_row.specs.Row.{constant_row, expanded_below}
use Rattle.df_row.specs.RowView.{with_offset}
use Rattle.df_row.specs.ExpansionView.{expansion_of}
use Rattle.df_row.proofs.Rows.{passed}
use Rattle.df_row.proofs.Offsets.{from_bases}
use Rattle.df_row.proofs.expansion.Expansion.difference.Goals as goal

pub returns : goal.returns
returns c =
    let nodes = c.args.nodes.now in
    let same : passed c.args.k ≡ c.args.k = search (rules, to_z-of_z) in
    let start = c.of_constant-sum.ensures ∙ ap constant_row same in
    let first : expansion_of c.add_offset.new.self ≡ with_offset (offset_of nodes c.args.b) (pos 1) (constant_row c.args.k) = c.in_ok-add_offset.ensures ∙ (λ i. with_offset (c.offset.ensures i) (pos 1) (start i)) in
    let second : expansion_of c.add_offset-2.new.self ≡ with_offset (offset_of nodes c.args.a) (negsuc 0) (with_offset (offset_of nodes c.args.b) (pos 1) (constant_row c.args.k)) = c.in_ok-add_offset-2.ensures ∙ (λ i. with_offset (c.offset-2.ensures i) (negsuc 0) (first i)) in
    c.in_ok-expand.ensures ∙ ap (expanded_below nodes (length nodes)) second ∙ from_bases nodes c.are_table.ensures c.args.a c.args.b c.args.k
