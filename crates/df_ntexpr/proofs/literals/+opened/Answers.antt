use Rattle.std.proofs.Common.{refl, ap}
use Rattle.df_ntyping.specs.mirror.Parts.{Typed}
use Rattle.df_ntexpr.specs.declared.part.Part.{Part}
use Rattle.df_ntexpr.proofs.PartsSoFar.{parts_on, parts_end}
use Rattle.df_ntexpr.proofs.literals.+opened.Goals as goal

pub opened_parts-loop-operation-preserved : goal.opened_parts-loop-operation-preserved
opened_parts-loop-operation-preserved t c =
    let l = c.loop-operation in
    let x = c.operation-item.result in
    let one : Part = record { operator = x.operator; pos = x.pos; operand = c.in_ok-typed.typed.expr } in
    parts_on c.args.ty c.args.rest.now l.operation-index l.parts.items _ x c.loop-operation-test.true c.operation-item.is one c.push.new.self.items refl refl (ap (λ (t : Typed). t.expr) c.in_ok-typed.ensures) c.in_ok-push.ensures.items l.invariant

pub opened_parts-returns : goal.opened_parts-returns
opened_parts-returns t c =
    let l = c.loop-operation in
    parts_end c.args.ty c.args.rest.now l.operation-index l.parts.items _ c.loop-operation-test.false l.invariant
