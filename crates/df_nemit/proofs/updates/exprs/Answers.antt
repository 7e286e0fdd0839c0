use Rattle.std.proofs.Common.{List, map, refl, arith, rules}
use Rattle.std.proofs.Math.Nat.{le_trans}
use Rattle.df_nplain.specs.declared.expr.Expr.{Expr}
use Rattle.df_nplain.specs.ExprView.{expr_of}
use Rattle.df_nmach.specs.declared.instruction.Instruction.{Instruction}
use Rattle.df_nemit.specs.mirror.Emitting.{emit_expr, emit_exprs}
use Rattle.df_nemit.proofs.Walk.{goes_on, is_done}
use Rattle.df_nemit.proofs.updates.exprs.Goals as goal

pub returns-in_err-expr-clause-longer : goal.returns-in_err-expr-clause-longer
returns-in_err-expr-clause-longer c = le_trans c.loop-value.invariant.longer c.expr.ensures.longer

pub loop-value-preserved : goal.loop-value-preserved
loop-value-preserved c =
    let s = c.args.scratch in
    let run : List Instruction → List Expr → List Instruction = λ code xs. emit_exprs s code (map expr_of xs) in
    let step : List Instruction → Expr → List Instruction = λ code x. emit_expr s code (expr_of x) in
    record {
      longer = le_trans c.loop-value.invariant.longer c.expr.ensures.longer;
      rest = goes_on run step (λ code x xs. refl) (λ code. refl) c.args.all.now.items _ c.loop-value.value-index c.loop-value.code.items c.expr.new.code.items c.value-item.result (omega arith) (search rules) c.in_ok-expr.ensures.ok c.loop-value.invariant.rest;
    }

pub returns-clause-ok : goal.returns-clause-ok
returns-clause-ok c =
    let s = c.args.scratch in
    let run : List Instruction → List Expr → List Instruction = λ code xs. emit_exprs s code (map expr_of xs) in
    let step : List Instruction → Expr → List Instruction = λ code x. emit_expr s code (expr_of x) in
    is_done run step (λ code x xs. refl) (λ code. refl) c.args.all.now.items _ c.loop-value.value-index c.loop-value.code.items (omega arith) c.loop-value.invariant.rest
