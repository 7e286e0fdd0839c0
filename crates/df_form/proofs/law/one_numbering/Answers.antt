use Rattle.df_form.proofs.Walks.{one_end}
use Rattle.df_form.proofs.law.one_numbering.Goals as goal

pub returns : goal.returns
returns c nodes met after other ns = one_end nodes met ns after other
