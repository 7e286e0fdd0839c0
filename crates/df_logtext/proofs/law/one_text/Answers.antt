use Rattle.df_logtext.proofs.OneText.{one_text}
use Rattle.df_logtext.proofs.law.one_text.Goals as goal

pub returns : goal.returns
returns c = one_text
