use Rattle.std.proofs.lemmas.Result.{IfOk-weaker}
use Rattle.df_ncmd.proofs.Builders.{adds_rule}
use Rattle.df_ncmd.proofs.table.proving.Goals as goal

pub returns : goal.returns
returns c =
    let one = adds_rule _ _ _ _ _ (c.new.ensures.app, c.new.ensures.local) c.place.ensures c.in_ok-arg.ensures in
    let two = adds_rule _ _ _ _ _ one c.number_option.ensures c.in_ok-arg-2.ensures in
    IfOk-weaker c.arg-3.result _ _ (λ command adds. adds_rule _ _ _ _ _ two c.number_option-2.ensures adds) c.arg-3.ensures
