use Rattle.df_kern.proofs.Links.{least-alone}
use Rattle.df_kern.proofs.classes.Classes.new.Goals as goal

pub returns : goal.returns
returns c = λ i n. least-alone c.new.result.entries c.new.ensures.empty n i
