use Rattle.df_form.proofs.Renamings.{one_sequent}
use Rattle.df_form.proofs.law.one_sequent.Goals as goal

pub returns : goal.returns
returns c one other f = one_sequent one other f
