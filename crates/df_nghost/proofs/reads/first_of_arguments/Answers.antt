use Rattle.df_lang.specs.ExprView.{expr_of}
use Rattle.df_lang.specs.Assignment.{reads}
use Rattle.df_nghost.specs.mirror.Known.{assigned_of}
use Rattle.df_nghost.proofs.Finds.{each_goes}
use Rattle.df_nghost.proofs.reads.first_of_arguments.Goals as goal

pub loop-argument-preserved : goal.loop-argument-preserved
loop-argument-preserved c =
    each_goes (assigned_of c.args.assigned.now) expr_of reads c.loop-argument.first _ _ _ c.loop-argument.argument-index c.argument-item.result c.loop-argument-test.true c.argument-item.is c.first_use-first.ensures c.loop-argument.invariant
