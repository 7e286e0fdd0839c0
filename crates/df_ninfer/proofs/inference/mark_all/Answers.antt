use Rattle.std.proofs.Common.{map}
use Rattle.std.specs.List.{flat_map}
use Rattle.df_ntree.specs.Expr.{expr_of}
use Rattle.df_ntyping.specs.LocalTypes.{names_in}
use Rattle.df_ninfer.specs.Marks.{marked}
use Rattle.df_ninfer.proofs.Looping.{mark_step}
use Rattle.df_ninfer.proofs.inference.mark_all.Goals as goal

pub loop-e-preserved : goal.loop-e-preserved
loop-e-preserved c =
    mark_step expr_of names_in c.args.all.now c.loop-e.e-index c.e-item.result c.loop-e.env c.mark.new.env (marked c.args.env.now (flat_map names_in (map expr_of c.args.all.now))) c.loop-e-test.true c.e-item.is c.mark.ensures c.loop-e.invariant
