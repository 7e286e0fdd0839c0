use Rattle.std.proofs.Common.{List, [], ◌∷◌, ◌++◌, map, Option, refl, ap, ◌∙◌, arith}
use Rattle.df_lang.specs.declared.ty.Ty.{Ty}
use Rattle.df_ntree.specs.declared.expr.Expr.{Expr}
use Rattle.df_ntree.specs.Expr.{expr_of}
use Rattle.df_ntyping.specs.LocalTypes.{next_type, types_of_value}
use Rattle.df_lemmas.proofs.Loops.{run_more, run_done}
use Rattle.df_ninfer.proofs.inference.first_types.Goals as goal

pub loop-e-preserved : goal.loop-e-preserved
loop-e-preserved c =
    let env = c.args.env.now in
    run_more (λ (l : List Expr). map (λ value. next_type (types_of_value env value)) (map expr_of l)) (λ e. next_type (types_of_value env (expr_of e)) ∷ []) (λ x xs. refl) c.args.values.now c.loop-e.e-index
    c.e-item.result c.loop-e.types.items c.push.new.self.items _ c.loop-e-test.true c.e-item.is
    (c.in_ok-push.ensures.items ∙ ap (λ (ty : Option Ty). c.loop-e.types.items ++ ty ∷ []) c.first_type.ensures) c.loop-e.invariant

pub returns : goal.returns
returns c =
    run_done (λ (l : List Expr). map (λ value. next_type (types_of_value c.args.env.now value)) (map expr_of l)) refl c.args.values.now c.loop-e.e-index c.loop-e.types.items _ (omega arith) c.loop-e.invariant
