use Rattle.std.proofs.Common.{sym, ap, ◌∙◌}
use Rattle.df_classes.specs.mirror.Clash.{clash}
use Rattle.df_classes.specs.mirror.State.{label_of}
use Rattle.df_classes.specs.PartitionView.{state_of}
use Rattle.df_cong.proofs.Answering.{is_quiet}
use Rattle.df_cong.proofs.classes.answer_for.Goals as goal

pub conflict-requires-clause-clash : goal.conflict-requires-clause-clash
conflict-requires-clause-clash c =
    let test = clash c.args.nodes.now (label_of (state_of c.args.holding.now.partition)) c.args.numbers.now in
    sym (ap test c.deref.ensures.value) ∙ sym c.in_ok-do_clash.ensures ∙ c.if-branch.true

pub returns-else-branch : goal.returns-else-branch
returns-else-branch c =
    let test = clash c.args.nodes.now (label_of (state_of c.args.holding.now.partition)) c.args.numbers.now in
    is_quiet c.args.nodes.now c.args.numbers.now c.args.holding.now c.requires.holding c.requires.numbers (sym c.if-branch.false ∙ c.in_ok-do_clash.ensures ∙ ap test c.deref.ensures.value)
