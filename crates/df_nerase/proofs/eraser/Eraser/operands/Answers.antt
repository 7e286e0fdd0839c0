use Rattle.std.proofs.Common.{arith, rules, map, ap, ◌∙◌}
use Rattle.std.proofs.lemmas.List.{take_all}
use Rattle.df_lang.specs.StmtView.{operand_of}
use Rattle.df_nplain.specs.StmtView as plain
use Rattle.df_nerase.specs.Eraser.{program_in}
use Rattle.df_nerase.specs.Erasing.{erase_operand}
use Rattle.df_nerase.proofs.MadeViews.{made_more}
use Rattle.df_nerase.proofs.eraser.Eraser.operands.Goals as goal

pub loop-operand-preserved : goal.loop-operand-preserved
loop-operand-preserved c =
    let p = program_in c.args.self.now in
    let l = c.loop-operand in
    made_more operand_of plain.operand_of (erase_operand p) c.args.all.now.items l.operand-index c.operand-item.result (omega arith) (search rules) l.erased.items c.push.new.self.items c.in_ok-operand.field-0 c.in_ok-operand.ensures c.in_ok-push.ensures.items l.invariant

pub returns : goal.returns
returns c =
    let p = program_in c.args.self.now in
    let l = c.loop-operand in
    l.invariant ∙ ap (λ xs. map (erase_operand p) (map operand_of xs)) (take_all l.operand-index c.args.all.now.items (omega arith))
