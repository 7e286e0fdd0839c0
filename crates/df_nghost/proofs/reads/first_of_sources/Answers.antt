use Rattle.df_lang.specs.StmtView.{source_of}
use Rattle.df_lang.specs.Assignment.{reads_of_source}
use Rattle.df_nghost.specs.mirror.Known.{assigned_of}
use Rattle.df_nghost.proofs.Finds.{each_goes}
use Rattle.df_nghost.proofs.reads.first_of_sources.Goals as goal

pub loop-source-preserved : goal.loop-source-preserved
loop-source-preserved c =
    each_goes (assigned_of c.args.assigned.now) source_of reads_of_source c.loop-source.first _ _ _ c.loop-source.source-index c.source-item.result c.loop-source-test.true c.source-item.is c.first_of_source-first.ensures c.loop-source.invariant
