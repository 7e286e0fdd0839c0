use Rattle.std.proofs.Common.{map}
use Rattle.df_ntree.specs.Expr.{expr_of}
use Rattle.df_ninfer.proofs.Marking.{assign_done}
use Rattle.df_ninfer.proofs.inference.assign.Goals as goal

pub returns : goal.returns
returns c =
    assign_done c.args.env.now c.mark_targets.new.env c.mark_all.new.env c.take_all.new.env (map expr_of c.args.targets.now) (map expr_of c.args.values.now) c.deref.result.now c.in_ok-types.types.items c.mark_targets.ensures c.mark_all.ensures c.deref.ensures.value c.in_ok-types.ensures c.take_all.ensures
