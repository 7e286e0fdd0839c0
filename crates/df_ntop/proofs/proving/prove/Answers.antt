use Rattle.std.proofs.Common.{ℕ, List, map, subst}
use Rattle.df_lang.specs.View.{program_of}
use Rattle.df_report.specs.declared.outcome.Outcome.{Outcome}
use Rattle.df_report.specs.View.{outcome_of}
use Rattle.df_nverdict.specs.Verdict.{AreVerdicts}
use Rattle.df_nverdict.specs.View.{outcomes_in, proofs_in}
use Rattle.df_ntop.specs.Proving.{Reports}
use Rattle.df_ntop.proofs.Reports.{is_verdict, is_report, is_last_line}
use Rattle.df_ntop.proofs.proving.prove.Goals as goal

pub returns-clause-report : goal.returns-clause-report
returns-clause-report c =
    let program = program_of c.args.program.now.program in
    let judged = c.in_ok-judged.judged in
    let report = c.in_ok-report.report in
    let told = subst (λ (os : List Outcome). Reports (map outcome_of os) report.verified report.text.items report.last.items) c.as_slice-2.ensures.value c.in_ok-report.ensures in
    is_report program c.args.budget (outcomes_in judged) report.verified report.text.items report.last.items
    (is_verdict program c.args.budget c.in_ok-groups.groups.items (outcomes_in judged) (proofs_in judged) c.in_ok-groups.ensures
    (subst (λ (groups : List ℕ). AreVerdicts program groups c.args.budget (outcomes_in judged) (proofs_in judged)) c.as_slice.ensures.value c.in_ok-judged.ensures.judged) c.in_ok-judged.ensures.correct) told

pub returns-clause-last : goal.returns-clause-last
returns-clause-last c =
    let program = program_of c.args.program.now.program in
    let judged = c.in_ok-judged.judged in
    let report = c.in_ok-report.report in
    let told = subst (λ (os : List Outcome). Reports (map outcome_of os) report.verified report.text.items report.last.items) c.as_slice-2.ensures.value c.in_ok-report.ensures in
    is_last_line program c.args.budget (outcomes_in judged) report.verified report.text.items report.last.items
    (is_verdict program c.args.budget c.in_ok-groups.groups.items (outcomes_in judged) (proofs_in judged) c.in_ok-groups.ensures
    (subst (λ (groups : List ℕ). AreVerdicts program groups c.args.budget (outcomes_in judged) (proofs_in judged)) c.as_slice.ensures.value c.in_ok-judged.ensures.judged) c.in_ok-judged.ensures.correct) told
