use Rattle.std.proofs.lemmas.Result.{IfOk-weaker}
use Rattle.df_ncmd.proofs.Builders.{adds_rule}
use Rattle.df_ncmd.proofs.table.running.Goals as goal

pub returns : goal.returns
returns c =
    IfOk-weaker c.arg.result _ _ (λ command adds. adds_rule _ _ _ _ _ c.in_ok-command.ensures c.number_option-fuel.ensures adds) c.arg.ensures
