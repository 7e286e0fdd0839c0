use Rattle.df_cong.proofs.classes.answer_after.Goals as goal

pub returns-then-branch-clause-answer : goal.returns-then-branch-clause-answer
returns-then-branch-clause-answer c = c.in_ok-is_surely_quiet.ensures.quiet c.if-branch.true
