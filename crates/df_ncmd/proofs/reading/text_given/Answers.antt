use Rattle.df_ncmd.proofs.Found.{text_found}
use Rattle.df_ncmd.proofs.reading.text_given.Goals as goal

pub returns : goal.returns
returns c = text_found c.args.given.now c.args.id.now c.get_str.result c.get_str.ensures
