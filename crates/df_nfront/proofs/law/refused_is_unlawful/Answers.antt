use Rattle.df_nfront.proofs.Sources.{unlawful}
use Rattle.df_nfront.proofs.law.refused_is_unlawful.Goals as goal

pub returns : goal.returns
returns c = unlawful c.one_division.ensures c.one_file.ensures c.one_program.ensures c.no_division.ensures c.elaborated_is_faultless.ensures
