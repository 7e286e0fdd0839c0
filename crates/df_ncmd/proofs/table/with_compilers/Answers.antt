use Rattle.std.proofs.lemmas.Result.{IfOk-weaker}
use Rattle.df_ncmd.proofs.Builders.{adds_command, adds_to}
use Rattle.df_ncmd.proofs.table.with_compilers.Goals as goal

pub returns : goal.returns
returns c =
    let one = adds_to _ _ _ _ c.in_ok-compiling.ensures c.in_ok-subcommand.ensures in
    IfOk-weaker c.subcommand-2.result _ _ (λ command adds. adds_command _ _ _ _ _ one c.in_ok-running.ensures adds) c.subcommand-2.ensures
