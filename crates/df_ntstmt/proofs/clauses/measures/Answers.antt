use Rattle.std.proofs.Common.{map, List, refl}
use Rattle.std.proofs.lemmas.List.{map-append}
use Rattle.std.proofs.lemmas.Result.{err_from_is_err_and}
use Rattle.df_lang.specs.Stmt as pure
use Rattle.df_lang.specs.StmtView.{measure_of}
use Rattle.df_ntree.specs.Expr.{expr_of}
use Rattle.df_ntyping.specs.Wanted as wanteds
use Rattle.df_ntyping.specs.mirror.Parts.{Typed}
use Rattle.df_ntexpr.specs.Parts.{typed_of}
use Rattle.df_ntstmt.specs.mirror.Steps.{typed_in}
use Rattle.df_ntstmt.specs.mirror.Clauses.{measures_in}
use Rattle.df_ntstmt.proofs.Looping.{walk_goes, walk_stops}
use Rattle.df_ntstmt.proofs.clauses.measures.Goals as goal

abbrev made : Typed → pure.Measure
made t = record { ty = t.ty; value = t.expr }

pub loop-e-preserved : goal.loop-e-preserved
loop-e-preserved c =
    let env = c.args.env.now in
    rw (c.in_ok-push.ensures.items, map-append measure_of)
    (walk_goes expr_of (measures_in env) (typed_in env wanteds.Nothing) made c.args.values.now c.loop-e.e-index c.e-item.result (map measure_of c.loop-e.measures.items) (typed_of c.in_ok-typed.typed) _ (λ x xs. refl) c.loop-e-test.true c.e-item.is c.in_ok-typed.ensures c.loop-e.invariant)

pub returns-in_err-typed : goal.returns-in_err-typed
returns-in_err-typed c =
    let env = c.args.env.now in
    let p = err_from_is_err_and c.from_residual.result c.from_residual.ensures.1 in
    rw (p.1, p.2)
    (walk_stops typed_of (λ (xs : List pure.Measure). xs) c.in_err-typed.field-0.0 expr_of (measures_in env) (typed_in env wanteds.Nothing) made c.args.values.now c.loop-e.e-index c.e-item.result (map measure_of c.loop-e.measures.items) _ (λ x xs. refl) c.loop-e-test.true c.e-item.is c.in_err-typed.ensures c.loop-e.invariant)
