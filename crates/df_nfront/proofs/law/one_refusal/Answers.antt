use Rattle.df_nfront.proofs.OneRefusal.{refused_once}
use Rattle.df_nfront.proofs.law.one_refusal.Goals as goal

pub returns : goal.returns
returns c = refused_once c.one_fault.ensures c.no_division.ensures c.one_division.ensures c.one_file.ensures c.one_refusal.ensures
