use Rattle.df_tok.proofs.Words.{word_found}
use Rattle.df_tok.proofs.word.word_of.Goals as goal

pub returns : goal.returns
returns c = rw c.first_of.ensures (word_found c.args.text.now)
