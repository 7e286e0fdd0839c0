use Rattle.df_closure.proofs.Coefficients.{numbers_alone}
use Rattle.df_closure.proofs.filling.rows_are_of_numbers.Goals as goal

pub returns : goal.returns
returns c = λ nodes literals rows table. numbers_alone nodes (record { sorted = table.sorted }) literals rows
