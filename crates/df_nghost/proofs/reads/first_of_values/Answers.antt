use Rattle.df_lang.specs.StmtView.{measure_of}
use Rattle.df_lang.specs.Stmt.{Measure}
use Rattle.df_lang.specs.Assignment.{reads}
use Rattle.df_nghost.specs.mirror.Known.{assigned_of}
use Rattle.df_nghost.proofs.Finds.{each_goes}
use Rattle.df_nghost.proofs.reads.first_of_values.Goals as goal

pub loop-measure-preserved : goal.loop-measure-preserved
loop-measure-preserved c =
    each_goes (assigned_of c.args.assigned.now) measure_of (λ (measure : Measure). reads measure.value) c.loop-measure.first _ _ _ c.loop-measure.measure-index c.measure-item.result c.loop-measure-test.true c.measure-item.is c.first_use-first.ensures c.loop-measure.invariant
