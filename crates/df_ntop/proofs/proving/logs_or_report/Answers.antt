use Rattle.std.proofs.Common.{List, map, ap, sym, subst, ◌∙◌}
use Rattle.df_report.specs.declared.outcome.Outcome.{Outcome}
use Rattle.df_report.specs.View.{outcome_of}
use Rattle.df_nverdict.specs.Verdict.{are_verified}
use Rattle.df_ntop.specs.Proving.{Reports}
use Rattle.df_ntop.proofs.proving.logs_or_report.Goals as goal

pub returns-then-all_verified : goal.returns-then-all_verified
returns-then-all_verified c =
    let same = c.all_verified.ensures ∙ ap (λ (os : List Outcome). are_verified (map outcome_of os)) c.as_slice.ensures.value in
    (sym same ∙ c.if-all_verified.true, c.in_ok-text.ensures.written, c.in_ok-text.ensures.numbers)

pub returns : goal.returns
returns c =
    let same = c.all_verified.ensures ∙ ap (λ (os : List Outcome). are_verified (map outcome_of os)) c.as_slice.ensures.value in
    let report = c.in_ok-report.report in
    let told = subst (λ (os : List Outcome). Reports (map outcome_of os) report.verified report.text.items report.last.items) c.as_slice-2.ensures.value c.in_ok-report.ensures in
    (told.verified_is ∙ sym same ∙ c.if-all_verified.false, told)
