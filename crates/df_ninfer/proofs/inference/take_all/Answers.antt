use Rattle.std.proofs.Common.{map}
use Rattle.df_ntree.specs.Expr.{expr_of}
use Rattle.df_ninfer.specs.Marks.{took}
use Rattle.df_ninfer.proofs.Looping.{take_step}
use Rattle.df_ninfer.proofs.inference.take_all.Goals as goal

pub loop-i-preserved : goal.loop-i-preserved
loop-i-preserved c =
    take_step expr_of c.args.targets.now c.loop-i.i c.index-targets-i.result c.args.types.now c.type_at.result c.loop-i.env c.take.new.env (took c.args.env.now (map expr_of c.args.targets.now) c.args.types.now) c.loop-i-test.true c.index-targets-i.is c.type_at.ensures c.take.ensures c.loop-i.invariant
