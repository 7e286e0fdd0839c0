use Rattle.std.proofs.Common.{map, not}
use Rattle.df_ntree.specs.Expr.{expr_of}
use Rattle.df_ninfer.proofs.Marking.{has_by_count}
use Rattle.df_ninfer.proofs.Declaring.{var_done_if}
use Rattle.df_ninfer.proofs.inference.var.Goals as goal

pub returns : goal.returns
returns c =
    var_done_if c.declare_all.result c.args.env.now c.mark_all.new.env c.declare_all.new.env c.args.locals.now (map expr_of c.args.values.now) c.deref.result.now c.in_ok-types.types.items (not c.is_empty.result) c.mark_all.ensures c.deref.ensures.value c.in_ok-types.ensures
    (has_by_count expr_of c.args.values.now c.is_empty.result c.is_empty.ensures) c.declare_all.ensures
