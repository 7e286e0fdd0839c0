-- The logs of proofs, and what a log proves.
use Rattle.std.specs.Prelude.{◌≡◌, ℕ, true, List, map}
use Rattle.std.specs.List.{flat_map}
use Rattle.df_lang.specs.Groups.{AreGroups}
use Rattle.df_lang.specs.Program.{Program}
use Rattle.df_form.specs.Log.{Step, step_of}
use Rattle.df_logtext.specs.BadLog.{IsText}
use Rattle.df_npass.specs.Methods.{obligations}
use Rattle.df_report.specs.Report.{Outcome}
use Rattle.df_search.specs.declared.found.Budget.{Budget}
use Rattle.df_nverdict.specs.declared.judging.Proof.{Proof}
use Rattle.df_nverdict.specs.Verdict.{IsJudged, are_verified}
use Rattle.df_nproof.specs.Names.{names_in}
use Rattle.df_nproof.specs.Derived.{AreDerived}

abbrev pub log_in : Proof → List Step
log_in proof = map step_of proof.log.items

-- of method after method
abbrev pub logs_in : List (List Proof) → List (List Step)
logs_in proofs = flat_map (λ of_method. map log_in of_method) proofs

-- The bytes are the text of logs, of which one derives each obligation of the program over its groups, in their order.
pub record IsLogOf (program : Program) (bytes : List ℕ) : Type 0 where
  pub groups : List ℕ
  pub are_groups : AreGroups program groups
  pub logs : List (List Step)
  pub is_text : IsText (names_in program) logs bytes
  pub derived : AreDerived program (obligations program groups) logs

-- And the outcomes are those that any search would have that finds a log for each: none has a failure.
pub record IsCheckedBy (program : Program) (bytes : List ℕ) (outcomes : List Outcome) : Type 0 where
  pub proves : IsLogOf program bytes
  pub verified : are_verified outcomes ≡ true
  pub judged : (budget : Budget) → IsJudged program proves.groups budget outcomes
