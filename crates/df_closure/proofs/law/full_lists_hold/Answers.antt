use Rattle.df_closure.proofs.FullLists.{known_hold}
use Rattle.df_closure.proofs.law.full_lists_hold.Goals as goal

pub returns : goal.returns
returns c = λ nodes known v t table literals connectives consistent reading primitives.
    known_hold nodes known v t (record { sorted = record { sorted = table.sorted }; reading = reading; connectives = connectives; consistent = consistent }) primitives literals
