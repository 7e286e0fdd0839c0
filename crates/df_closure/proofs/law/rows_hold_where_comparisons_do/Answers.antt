use Rattle.df_form.proofs.Values.{AreSorted}
use Rattle.df_closure.proofs.Comparisons.{comparisons_follow, rows_follow}
use Rattle.df_closure.proofs.law.rows_hold_where_comparisons_do.Goals as goal

pub returns : goal.returns
returns c = λ nodes literals rows v t table reading found.
    let sorted : AreSorted nodes = record { sorted = table.sorted } in (comparisons_follow nodes sorted v t reading literals rows found, rows_follow nodes sorted v t reading literals rows found)
