use Rattle.std.proofs.lemmas.Result.{IfOk-weaker}
use Rattle.df_lang.specs.View.{program_of}
use Rattle.df_nverdict.specs.View.{outcomes_in, proofs_in}
use Rattle.df_nverdict.proofs.verdict.verdicts.Goals as goal

pub returns-clause-correct : goal.returns-clause-correct
returns-clause-correct c = IfOk-weaker c.judge_all.result _ _ (λ judged h.
    c.judged_is_correct.ensures (program_of c.args.program.now.program) c.args.groups.now c.args.budget (outcomes_in judged) c.args.program.now.program.is_well_typed c.args.program.now.definite c.requires.groups (proofs_in judged, h)) c.judge_all.ensures
