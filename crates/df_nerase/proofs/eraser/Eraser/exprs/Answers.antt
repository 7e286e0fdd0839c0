use Rattle.std.proofs.Common.{arith, rules, map, ap, ◌∙◌}
use Rattle.std.proofs.lemmas.List.{take_all}
use Rattle.df_lang.specs.ExprView.{expr_of}
use Rattle.df_nplain.specs.ExprView as plain
use Rattle.df_nerase.specs.Eraser.{program_in}
use Rattle.df_nerase.specs.Erasing.{erase_expr}
use Rattle.df_nerase.proofs.MadeViews.{made_more}
use Rattle.df_nerase.proofs.eraser.Eraser.exprs.Goals as goal

pub loop-one-preserved : goal.loop-one-preserved
loop-one-preserved c =
    let p = program_in c.args.self.now in
    let l = c.loop-one in
    made_more expr_of plain.expr_of (erase_expr p) c.args.all.now.items l.one-index c.one-item.result (omega arith) (search rules) l.erased.items c.push.new.self.items c.in_ok-expr.field-0 c.in_ok-expr.ensures c.in_ok-push.ensures.items l.invariant

pub returns : goal.returns
returns c =
    let p = program_in c.args.self.now in
    let l = c.loop-one in
    l.invariant ∙ ap (λ xs. map (erase_expr p) (map expr_of xs)) (take_all l.one-index c.args.all.now.items (omega arith))
