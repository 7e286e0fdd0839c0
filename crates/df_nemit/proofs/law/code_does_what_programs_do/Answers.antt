use Rattle.df_nemit.proofs.MethodRuns.{does_what}
use Rattle.df_nemit.proofs.law.code_does_what_programs_do.Goals as goal

pub returns : goal.returns
returns c program bounded counted short = does_what program bounded counted short
