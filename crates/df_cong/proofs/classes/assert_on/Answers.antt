use Rattle.std.proofs.Common.{ap, ◌∙◌, arith}
use Rattle.df_form.specs.Clause.{are_literals}
use Rattle.df_cong.proofs.Answering.{literals_more}
use Rattle.df_classes.proofs.Holds.{cut_holds, cut_last}
use Rattle.df_classes.proofs.Covered.{covered_grown, covered_returned, covered_cut}
use Rattle.df_classes.proofs.Taking.{came_of}
use Rattle.df_cong.proofs.classes.assert_on.Goals as goal

pub returns-in_err-hold-clause-covered : goal.returns-in_err-hold-clause-covered
returns-in_err-hold-clause-covered c = covered_returned c.args.nodes.now c.args.holding.now c.hold.new.self c.args.signs.now c.in_err-hold.ensures.returns c.requires.covered

pub answer_after-requires-clause-literals : goal.answer_after-requires-clause-literals
answer_after-requires-clause-literals c =
    ap (are_literals c.args.nodes.now) c.in_ok-hold.ensures.holds ∙ literals_more c.args.nodes.now c.args.holding.now.held.items c.args.literal c.requires.literals c.requires.literal

pub answer_after-requires-clause-came : goal.answer_after-requires-clause-came
answer_after-requires-clause-came c = came_of c.args.nodes.now c.args.holding.now c.hold.new.self c.args.literal c.changes-from.result c.requires.holding c.in_ok-hold.ensures.grows c.changes-from.ensures

pub answer_after-requires-clause-covered : goal.answer_after-requires-clause-covered
answer_after-requires-clause-covered c = covered_grown c.args.nodes.now c.args.holding.now c.hold.new.self c.args.literal c.args.signs.now c.requires.holding c.in_ok-hold.ensures.grows c.requires.covered

pub returns-in-Err-clause-holding : goal.returns-in-Err-clause-holding
returns-in-Err-clause-holding c = cut_holds c.args.nodes.now c.hold.new.self c.cut.new.self c.len-before.result c.hold.ensures.holding c.cut.ensures

pub returns-in-Err-clause-err : goal.returns-in-Err-clause-err
returns-in-Err-clause-err c = cut_last c.hold.new.self c.cut.new.self c.args.holding.now.held.items c.args.literal c.len-before.result (omega (arith, c.len-before.ensures, c.args.holding.now.held.ok.0)) c.in_ok-hold.ensures.holds c.cut.ensures

pub returns-in-Err-clause-covered : goal.returns-in-Err-clause-covered
returns-in-Err-clause-covered c =
    covered_cut c.args.nodes.now c.hold.new.self c.cut.new.self c.len-before.result c.answer_after.new.signs c.forget.new.self c.hold.ensures.holding c.cut.ensures c.forget.ensures.keeps c.forget.ensures.fewer c.forget.ensures.within c.answer_after.ensures.covered
