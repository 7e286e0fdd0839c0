use Rattle.std.proofs.lemmas.Result.{IfOk-weaker}
use Rattle.df_ncmd.proofs.Builders.{adds_to}
use Rattle.df_ncmd.proofs.table.with_checker.Goals as goal

pub returns : goal.returns
returns c = IfOk-weaker c.subcommand.result _ _ (λ command adds. adds_to _ _ _ _ c.in_ok-checking.ensures adds) c.subcommand.ensures
