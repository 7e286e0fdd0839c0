use Rattle.std.proofs.Common.{◌≡◌, ◌∙◌, sym, ap, Some, List, [], ◌∷◌, ◌++◌, map, length, Option, rules}
use Rattle.std.specs.Option.{option_map}
use Rattle.std.proofs.lemmas.Int.{to_z-of_z}
use Rattle.std.proofs.lemmas.List.{map_push}
use Rattle.df_row.specs.Row.{Row, difference}
use Rattle.df_row.specs.RowView.{row_of}
use Rattle.df_row.proofs.Rows.{passed}
use Rattle.df_row.proofs.linear.push_difference.Goals as goal

pub returns : goal.returns
returns c =
    let nodes = c.args.nodes.now in
    let rows = c.args.rows.now.items in
    let pushed : Option Row → Option (List Row) = option_map (λ r. map row_of rows ++ r ∷ []) in
    let same : passed c.args.k ≡ c.args.k = search (rules, to_z-of_z) in
    ap (λ k. pushed (difference nodes (length nodes) c.args.a c.args.b k)) (sym same) ∙ ap pushed c.in_ok-difference.ensures ∙ ap Some (sym (ap (map row_of) c.in_ok-push.ensures.items ∙ map_push row_of rows c.in_ok-difference.field-0))
