-- What logs of programs are worth.
use Rattle.std.specs.Prelude.{◌≡◌, ℕ, true, List}
use Rattle.df_lang.specs.Assignment.{IsDefinitelyAssigned}
use Rattle.df_lang.specs.Groups.{AreGroups}
use Rattle.df_lang.specs.Program.{Program}
use Rattle.df_lang.specs.Typing.{is_well_typed}
use Rattle.df_meaning.specs.Correct.{AreCorrect}
use Rattle.df_form.specs.Log.{Step}
use Rattle.df_logtext.specs.HasText.{HaveNumbers, HaveText}
use Rattle.df_npass.specs.Methods.{Obligation, obligations}
use Rattle.df_report.specs.Report.{Outcome}
use Rattle.df_search.specs.declared.found.Budget.{Budget}
use Rattle.df_nverdict.specs.declared.judging.Proof.{Proof}
use Rattle.df_nverdict.specs.Verdict.{IsJudged, AreVerdicts, are_verified}
use Rattle.df_nproof.specs.Names.{names_in, HaveTypeNames}
use Rattle.df_nproof.specs.Derived.{AreDerived}
use Rattle.df_nproof.specs.Refused.{IsRefusedAt}
use Rattle.df_nproof.specs.Proofs.{logs_in}
use Rattle.df_nproof.specs.Verified.{verified_outcomes}

-- where each obligation of a program over its groups has a log that derives it, each of its methods is correct
abbrev pub ProofsAreCorrect : Type 0
ProofsAreCorrect = (program : Program) (groups : List ℕ) (logs : List (List Step))
    → is_well_typed program ≡ true → IsDefinitelyAssigned program → AreGroups program groups
    → AreDerived program (obligations program groups) logs → AreCorrect program

-- the logs of verdicts without a failure are such
abbrev pub LogsOfVerdictsDerive : Type 0
LogsOfVerdictsDerive = (program : Program) (groups : List ℕ) (budget : Budget) (outcomes : List Outcome) (proofs : List (List Proof))
    → AreVerdicts program groups budget outcomes proofs → are_verified outcomes ≡ true
    → AreDerived program (obligations program groups) (logs_in proofs)

-- and its outcomes are one without failures for each method
abbrev pub OutcomesAre : Type 0
OutcomesAre = (program : Program) (groups : List ℕ) (budget : Budget) (outcomes : List Outcome)
    → IsJudged program groups budget outcomes → are_verified outcomes ≡ true → outcomes ≡ verified_outcomes program.decls

-- parts that derive their obligations are refused nowhere
abbrev pub DerivedIsNotRefused : Type 0
DerivedIsNotRefused = (program : Program) (os : List Obligation) (parts : List (List Step)) (number step : ℕ)
    → AreDerived program os parts → IsRefusedAt program os parts number step → ⊥

-- logs that derive obligations, and whose numbers fit, have a text
abbrev pub DerivedHaveText : Type 0
DerivedHaveText = (program : Program) (os : List Obligation) (logs : List (List Step))
    → HaveTypeNames program → AreDerived program os logs → HaveNumbers logs → HaveText (names_in program) logs
