use Rattle.df_lang.specs.StmtView.{clause_of}
use Rattle.df_lang.specs.Stmt.{Clause}
use Rattle.df_lang.specs.Assignment.{reads}
use Rattle.df_nghost.specs.mirror.Known.{assigned_of}
use Rattle.df_nghost.proofs.Finds.{each_goes}
use Rattle.df_nghost.proofs.reads.first_of_clauses.Goals as goal

pub loop-clause-preserved : goal.loop-clause-preserved
loop-clause-preserved c =
    each_goes (assigned_of c.args.assigned.now) clause_of (λ (clause : Clause). reads clause.condition) c.loop-clause.first _ _ _ c.loop-clause.clause-index c.clause-item.result c.loop-clause-test.true c.clause-item.is c.first_use-first.ensures c.loop-clause.invariant
