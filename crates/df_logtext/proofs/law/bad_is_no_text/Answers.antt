use Rattle.df_logtext.proofs.OneText.{bad_is_no_text}
use Rattle.df_logtext.proofs.law.bad_is_no_text.Goals as goal

pub returns : goal.returns
returns c = bad_is_no_text
