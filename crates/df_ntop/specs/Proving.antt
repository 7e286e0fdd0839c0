-- What proving a program answers.
use Rattle.std.specs.Prelude.{◌≡◌, ℕ, Bool, true, false, List}
use Rattle.df_lang.specs.Program.{Program}
use Rattle.df_logtext.specs.HasText.{HaveNumbers}
use Rattle.df_logtext.specs.LogText.{log_text}
use Rattle.df_ncmd.specs.Line.{Budget}
use Rattle.df_report.specs.Report.{Outcome, report_text, summary}
use Rattle.df_nverdict.specs.declared.verdict.Judged.{Judged}
use Rattle.df_nverdict.specs.Verdict.{are_verified}
use Rattle.df_nverdict.specs.View.{outcomes_in, proofs_in}
use Rattle.df_nproof.specs.Names.{names_in}
use Rattle.df_nproof.specs.Proofs.{logs_in}
use Rattle.df_ntop.specs.declared.proving.Attempt.{Attempt}
use Rattle.df_ntop.specs.declared.proving.Attempt.TheVariants as attempts
use Rattle.df_ntop.specs.Answer.{IsReport, IsProofText}

-- the report on outcomes: whether it tells of no failure, its text, and its last line
pub record Reports (outcomes : List Outcome) (verified : Bool) (text last : List ℕ) : Type 0 where
  pub verified_is : verified ≡ are_verified outcomes
  pub text_is : text ≡ report_text outcomes
  pub last_is : last ≡ summary outcomes

-- of verdicts the text of their logs, or the report
abbrev pub IsAttempt : Program → Judged → Attempt → Type 0
IsAttempt program judged (attempts.Logs text) = (are_verified (outcomes_in judged) ≡ true) × (text.items ≡ log_text (names_in program) (logs_in (proofs_in judged))) × HaveNumbers (logs_in (proofs_in judged))
IsAttempt program judged (attempts.Failure report) = (report.verified ≡ false) × Reports (outcomes_in judged) report.verified report.text.items report.last.items

-- of a program the text of a log for each obligation, or a report with a failure
abbrev pub Attempts : Program → Budget → Attempt → Type 0
Attempts program budget (attempts.Logs text) = IsProofText program text.items
Attempts program budget (attempts.Failure report) = (report.verified ≡ false) × IsReport program budget report.verified report.text.items
