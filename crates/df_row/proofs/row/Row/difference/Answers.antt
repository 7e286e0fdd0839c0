use Rattle.std.proofs.Common.{◌≡◌, ◌∙◌, sym, ap, subst, length, rules}
use Rattle.std.proofs.lemmas.Int.{to_z-of_z}
use Rattle.df_row.specs.Row.{Row, expanded_difference, narrow_row}
use Rattle.df_row.specs.RowView.{row_of, Finds, IsWithin}
use Rattle.df_row.specs.ExpansionView.{expansion_of}
use Rattle.df_row.proofs.Rows.{passed}
use Rattle.df_row.proofs.LinearWithin.{table_expanded}
use Rattle.df_row.proofs.row.Row.difference.Goals as goal

pub returns : goal.returns
returns c =
    let nodes = c.args.nodes.now in
    let count = length nodes in
    let same : passed c.args.k ≡ c.args.k = search (rules, to_z-of_z) in
    let is : expansion_of c.in_ok-sum.sum ≡ expanded_difference nodes count c.args.a c.args.b c.args.k = c.in_ok-sum.ensures ∙ ap (expanded_difference nodes count c.args.a c.args.b) same in
    let P : Row → Type 0 = IsWithin count in
    let within = subst P (sym is) (table_expanded nodes c.are_table.ensures c.args.a c.args.b c.args.k c.requires.a_in c.requires.b_in) in
    let Q : Row → Type 0 = λ r. Finds row_of c.narrowed.result (narrow_row count r) in
    subst Q is (c.narrowed.ensures count within)
