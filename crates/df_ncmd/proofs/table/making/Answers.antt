use Rattle.std.proofs.lemmas.Result.{IfOk-weaker}
use Rattle.df_ncmd.proofs.Builders.{adds_rule}
use Rattle.df_ncmd.proofs.table.making.Goals as goal

pub returns : goal.returns
returns c =
    let one = adds_rule _ _ _ _ _ (c.new.ensures.app, c.new.ensures.local) c.number_place.ensures c.in_ok-arg.ensures in
    IfOk-weaker c.arg-2.result _ _ (λ command adds. adds_rule _ _ _ _ _ one c.number_place-2.ensures adds) c.arg-2.ensures
