use Rattle.std.proofs.lemmas.Result.{IfOk-weaker}
use Rattle.df_ncmd.proofs.Builders.{adds_rule}
use Rattle.df_ncmd.proofs.table.compiling.Goals as goal

pub returns : goal.returns
returns c =
    IfOk-weaker c.arg.result _ _ (λ command adds. adds_rule _ _ _ _ _ c.in_ok-proving.ensures c.option.ensures adds) c.arg.ensures
