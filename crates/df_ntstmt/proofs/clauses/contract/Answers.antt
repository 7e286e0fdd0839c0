use Rattle.std.proofs.Common.{map}
use Rattle.std.proofs.lemmas.Result.{err_from_is_err_and}
use Rattle.df_ntree.specs.File.{clause_of}
use Rattle.df_ntyping.specs.Node.{OfMethod}
use Rattle.df_ntstmt.specs.Said.{clauses_of, said_of}
use Rattle.df_ntstmt.specs.mirror.Clauses.{Clauses}
use Rattle.df_ntstmt.proofs.LoopedStatements.{clause_goes, clause_stops}
use Rattle.df_ntstmt.proofs.clauses.contract.Goals as goal

pub loop-each-preserved : goal.loop-each-preserved
loop-each-preserved c =
    rw c.in_ok-push.ensures
    (clause_goes c.args.parameters.now c.args.both.now OfMethod c.args.all.now c.loop-each.each-index c.each-item.result (clauses_of c.loop-each.clauses) (said_of c.in_ok-said.said) _ c.loop-each-test.true c.each-item.is c.in_ok-said.ensures c.loop-each.invariant)

pub returns-in_err-said : goal.returns-in_err-said
returns-in_err-said c =
    let p = err_from_is_err_and c.from_residual.result c.from_residual.ensures.1 in
    rw (p.1, p.2)
    (clause_stops said_of (λ (x : Clauses). x) c.in_err-said.field-0.0 c.args.parameters.now c.args.both.now OfMethod c.args.all.now c.loop-each.each-index c.each-item.result (clauses_of c.loop-each.clauses) _ c.loop-each-test.true c.each-item.is c.in_err-said.ensures c.loop-each.invariant)
