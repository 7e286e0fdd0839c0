-- The report on outcomes, and the text of their logs.
use Rattle.std.proofs.Common.{◌≡◌, ℕ, Bool, true, List, sym}
use Rattle.df_lang.specs.Groups.{AreGroups}
use Rattle.df_lang.specs.Program.{Program}
use Rattle.df_meaning.specs.Correct.{AreCorrect}
use Rattle.df_ncmd.specs.Line.{Budget}
use Rattle.df_search.specs.declared.found.Budget as search
use Rattle.df_report.specs.Report.{Outcome}
use Rattle.df_nverdict.specs.declared.judging.Proof.{Proof}
use Rattle.df_nverdict.specs.declared.verdict.Judged.{Judged}
use Rattle.df_nverdict.specs.Verdict.{AreVerdicts, are_verified}
use Rattle.df_nverdict.specs.View.{outcomes_in, proofs_in}
use Rattle.df_npass.specs.Methods.{obligations}
use Rattle.df_nproof.specs.Laws.{LogsOfVerdictsDerive, DerivedHaveText}
use Rattle.df_nproof.specs.Names.{HaveTypeNames}
use Rattle.df_nproof.specs.Proofs.{logs_in}
use Rattle.df_ntop.specs.declared.proving.Attempt.{Attempt}
use Rattle.df_ntop.specs.declared.proving.Attempt.TheVariants as attempts
use Rattle.df_ntop.specs.Answer.{IsVerdict, IsReport, IsLastLine}
use Rattle.df_ntop.specs.Proving.{Reports, IsAttempt, Attempts}

module _ (program : Program) (budget : search.Budget) where
  abbrev as_budget : Budget
  as_budget = record { steps = budget.steps; rounds = budget.rounds }

  pub is_verdict : (groups : List ℕ) (outcomes : List Outcome) (proofs : List (List Proof)) → AreGroups program groups → AreVerdicts program groups budget outcomes proofs → (are_verified outcomes ≡ true → AreCorrect program) → IsVerdict program as_budget outcomes
  is_verdict groups outcomes proofs are_groups judged correct = record { groups = groups; are_groups = are_groups; judged = (proofs, judged); correct = correct }

  pub is_report : (outcomes : List Outcome) (verified : Bool) (text last : List ℕ) → IsVerdict program as_budget outcomes → Reports outcomes verified text last → IsReport program as_budget verified text
  is_report outcomes verified text last verdict told = record { outcomes = outcomes; verdict = verdict; verified_is = sym told.verified_is; text_is = told.text_is }

  pub is_last_line : (outcomes : List Outcome) (verified : Bool) (text last : List ℕ) → IsVerdict program as_budget outcomes → Reports outcomes verified text last → IsLastLine program as_budget verified last
  is_last_line outcomes verified text last verdict told = record { outcomes = outcomes; verdict = verdict; verified_is = sym told.verified_is; text_is = told.last_is }

  -- logs, or a report with a failure
  pub attempts_so : LogsOfVerdictsDerive → DerivedHaveText → HaveTypeNames program → (judged : Judged) (groups : List ℕ) (attempt : Attempt) → AreGroups program groups → AreVerdicts program groups budget (outcomes_in judged) (proofs_in judged) → (are_verified (outcomes_in judged) ≡ true → AreCorrect program) → IsAttempt program judged attempt → Attempts program as_budget attempt
  attempts_so derive have named judged groups (attempts.Logs text) are_groups verdicts correct is =
      let logs = logs_in (proofs_in judged) in
      let derived = derive program groups budget (outcomes_in judged) (proofs_in judged) verdicts is.0 in
      record {
        logs = logs;
        proofs = record { groups = groups; are_groups = are_groups; derived = derived };
        correct = correct is.0;
        is_text = record { have = have program (obligations program groups) logs named derived is.2; text = is.1 };
      }
  attempts_so derive have named judged groups (attempts.Failure report) are_groups verdicts correct is =
      (is.0, is_report (outcomes_in judged) report.verified report.text.items report.last.items (is_verdict groups (outcomes_in judged) (proofs_in judged) are_groups verdicts correct) is.1)
