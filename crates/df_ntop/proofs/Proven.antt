-- Where a command ends with status 0 or 7, each obligation has a log that derives it.
use Rattle.std.proofs.Common.{◌≡◌, inl, inr, ℕ, true, List, subst}
use Rattle.df_base.specs.declared.status.Status.{Status}
use Rattle.df_base.specs.declared.status.Status.TheVariants as statuses
use Rattle.df_form.specs.Log.{Step}
use Rattle.df_lang.specs.Program.{Program}
use Rattle.df_ncmd.specs.Line.{Budget, Command, Verify, Prove, Check, Build, Run, Bulk}
use Rattle.df_nfront.specs.Source.{IsLawful}
use Rattle.df_nproof.specs.Derived.{AreProofs}
use Rattle.df_nproof.specs.Laws.{LogsOfVerdictsDerive}
use Rattle.df_nproof.specs.Proofs.{logs_in}
use Rattle.df_report.specs.Report.{Outcome}
use Rattle.df_nverdict.specs.Verdict.{are_verified}
use Rattle.df_ntop.specs.Call.{Call, IsLine, IsSourceOf}
use Rattle.df_ntop.specs.Command.{budget_of}
use Rattle.df_ntop.specs.Headline.{Share, Whole, Spent}
use Rattle.df_ntop.specs.Proved.{IsAccepting, ProvedByLogs, DerivesAll}
use Rattle.df_ntop.specs.Answer.{search_budget, OfLine, IsVerdict, Proved, ProvedSource, IsDone, IsSpent, Answers}
use Rattle.df_ntop.proofs.Limits.{same_command}

module _ (call : Call) (logs : LogsOfVerdictsDerive) where
  with_proofs : (command : Command) (source : List ℕ) (program : Program) (ls : List (List Step)) → IsSourceOf call.files command source → IsLawful source program → AreProofs program ls → ProvedByLogs call command
  with_proofs command source program ls there is proofs = record { source = source; loaded = there; program = program; lawful = is; logs = ls; proofs = proofs }

  of_verdict : (command : Command) (source : List ℕ) (program : Program) (budget : Budget) (outcomes : List Outcome) → IsSourceOf call.files command source → IsLawful source program → IsVerdict program budget outcomes → are_verified outcomes ≡ true → ProvedByLogs call command
  of_verdict command source program budget outcomes there is verdict verified =
      let judged = verdict.judged in
      with_proofs command source program (logs_in judged.0) there is (record {
        groups = verdict.groups;
        are_groups = verdict.are_groups;
        derived = logs program verdict.groups (search_budget budget) outcomes judged.0 judged.1 verified;
      })

  of_source : (command : Command) (is : ProvedSource call command) → ProvedByLogs call command
  of_source command is = of_verdict command is.right.source is.right.program (budget_of command) is.report.outcomes is.right.loaded is.right.lawful is.report.verdict is.report.verified_is

  of_proved : (command : Command) (share : Share) → Proved call command share → ProvedByLogs call command
  of_proved command share is =
      let proved = is.built.proved in
      of_verdict command is.accepted.source is.accepted.program (budget_of command) proved.outcomes is.accepted.loaded is.accepted.lawful proved.verdict proved.verified

  of_done : (command : Command) → IsDone call command → ProvedByLogs call command
  of_done (Verify file budget) is = of_source (Verify file budget) is
  of_done (Prove file budget) is = with_proofs (Prove file budget) is.right.source is.right.program is.logs.logs is.right.loaded is.right.lawful is.logs.proofs
  of_done (Check file name) is = of_source (Check file name) is
  of_done (Build file proof budget) is = of_proved (Build file proof budget) Whole is
  of_done (Run file proof budget fuel) is = of_proved (Run file proof budget fuel) Whole is
  of_done (Bulk seed count) is = of_proved (Bulk seed count) Whole is

  of_spent : (command : Command) → IsSpent call command → ProvedByLogs call command
  of_spent (Verify file budget) is = absurd is
  of_spent (Prove file budget) is = absurd is
  of_spent (Check file name) is = absurd is
  of_spent (Build file proof budget) is = absurd is
  of_spent (Run file proof budget fuel) is = of_proved (Run file proof budget fuel) Spent is
  of_spent (Bulk seed count) is = of_proved (Bulk seed count) Spent is

  module _ (command : Command) (line : IsLine call.words command) where
    of_line : (is : Command → Type 0) → OfLine call.words is → is command
    of_line is h = subst is (same_command call.words h.command command h.line line) h.holds

    by_status : (status other : Status) → status ≡ other → Answers call status → Answers call other
    by_status status other same a = subst (Answers call) same a

    accepted : (status : Status) → Answers call status → IsAccepting status → ProvedByLogs call command
    accepted status a (inl done) = of_done command (of_line (IsDone call) (by_status status statuses.Done done a).0)
    accepted status a (inr spent) = of_spent command (of_line (IsSpent call) (by_status status statuses.FuelSpent spent a).0)

  pub derives_all : (status : Status) → Answers call status → DerivesAll call status
  derives_all status a = λ command line accepting. accepted command line status a accepting
