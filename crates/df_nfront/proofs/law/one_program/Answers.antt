use Rattle.df_nfront.proofs.Sources as sources
use Rattle.df_nfront.proofs.law.one_program.Goals as goal

pub returns : goal.returns
returns c = sources.one_program c.one_division.ensures c.one_file.ensures c.one_program.ensures
