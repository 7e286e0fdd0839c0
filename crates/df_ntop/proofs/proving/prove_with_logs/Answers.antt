use Rattle.std.proofs.Common.{ℕ, List, subst}
use Rattle.std.proofs.lemmas.Result.{IfOk-weaker}
use Rattle.df_lang.specs.View.{program_of}
use Rattle.df_nverdict.specs.Verdict.{AreVerdicts}
use Rattle.df_nverdict.specs.View.{outcomes_in, proofs_in}
use Rattle.df_ntop.proofs.Reports.{attempts_so}
use Rattle.df_ntop.proofs.proving.prove_with_logs.Goals as goal

pub returns : goal.returns
returns c =
    let program = program_of c.args.program.now.program in
    let judged = c.in_ok-judged.judged in
    IfOk-weaker c.logs_or_report.result _ _ (λ attempt h.
    attempts_so program c.args.budget c.logs_of_verdicts_derive.ensures c.derived_logs_have_text.ensures c.requires.names.types judged c.in_ok-groups.groups.items attempt c.in_ok-groups.ensures
    (subst (λ (groups : List ℕ). AreVerdicts program groups c.args.budget (outcomes_in judged) (proofs_in judged)) c.as_slice.ensures.value c.in_ok-judged.ensures.judged) c.in_ok-judged.ensures.correct h) c.logs_or_report.ensures
