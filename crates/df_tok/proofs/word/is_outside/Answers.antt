use Rattle.df_tok.proofs.Outsides.{outside_law}
use Rattle.df_tok.proofs.word.is_outside.Goals as goal

pub returns : goal.returns
returns c = rw c.has_outside_form.ensures (outside_law c.args.text.now)
