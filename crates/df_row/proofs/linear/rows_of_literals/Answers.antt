use Rattle.std.proofs.Common.{sym, subst, map, length}
use Rattle.std.proofs.lemmas.Result.{err_from_is_err_and}
use Rattle.df_row.specs.RowView.{row_of}
use Rattle.df_row.specs.declared.linear.Comparison.{Comparison}
use Rattle.df_row.specs.LinearView.{IsComparisonBelow}
use Rattle.df_row.proofs.LinearWithin.{table_compared}
use Rattle.df_row.proofs.LinearRows.{gathers, gathering_fails}
use Rattle.df_row.proofs.linear.rows_of_literals.Goals as goal

pub returns-in_err-push_rows : goal.returns-in_err-push_rows
returns-in_err-push_rows c =
    let p = err_from_is_err_and c.from_residual.result c.from_residual.ensures.1 in
    rw (p.1, p.2) (gathering_fails c.args.nodes.now c.args.literals.now c.loop-literal.literal-index (map row_of c.loop-literal.rows.items) c.comparison_at-comparison.result c.loop-literal-test.true c.loop-literal.invariant c.comparison_at-comparison.ensures c.in_err-push_rows.field-0.0 c.in_err-push_rows.ensures)

pub loop-literal-preserved : goal.loop-literal-preserved
loop-literal-preserved c =
    gathers c.args.nodes.now c.args.literals.now c.loop-literal.literal-index (map row_of c.loop-literal.rows.items) c.comparison_at-comparison.result c.loop-literal-test.true c.loop-literal.invariant c.comparison_at-comparison.ensures (map row_of c.push_rows.new.rows.items) c.in_ok-push_rows.ensures

pub push_rows-requires : goal.push_rows-requires
push_rows-requires c =
    let nodes = c.args.nodes.now in
    let P : Comparison → Type 0 = IsComparisonBelow (length nodes) in
    subst P (sym c.comparison_at-comparison.ensures) (table_compared nodes c.are_table.ensures _ _)
