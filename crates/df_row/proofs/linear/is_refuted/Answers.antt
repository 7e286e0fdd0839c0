use Rattle.std.proofs.Common.{sym, ap, subst, Bool, List, map, length}
use Rattle.df_form.specs.Log.{combination_of}
use Rattle.df_form.specs.Clause.{negation}
use Rattle.df_row.specs.Row.{Row}
use Rattle.df_row.specs.RowView.{row_of}
use Rattle.df_row.specs.Linear.{refutes}
use Rattle.df_row.specs.LinearView.{Tells, if_rows}
use Rattle.df_row.proofs.LinearWithin.{table_within}
use Rattle.df_row.proofs.linear.is_refuted.Goals as goal

pub returns : goal.returns
returns c =
    let nodes = c.args.nodes.now in
    let test : List Row → Bool = λ rows. refutes (length nodes) rows (map combination_of c.args.combinations.now) in
    let within = table_within nodes (map negation c.args.conclusion.now) (map row_of c.in_ok-rows.rows.items) c.are_table.ensures c.in_ok-rows.ensures in
    subst (Tells c.refutes.result) (sym (ap (λ o. if_rows o test) c.in_ok-rows.ensures)) (c.refutes.ensures (length nodes) within)
