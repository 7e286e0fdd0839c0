-- What has a log for each obligation is valid, and so it is safe and correct.
use Rattle.std.proofs.Common.{◌≡◌, ℕ, zero, suc, ◌<◌, List, [], ◌∷◌, length, get_or, subst, arith}
use Rattle.df_hoare.specs.Total.{SafeIsCorrect}
use Rattle.df_lang.specs.Program.{Program}
use Rattle.df_form.specs.Log.{Step}
use Rattle.df_form.specs.Sequent.{Sequent, IsSequent, IsValid}
use Rattle.df_rules.specs.Derivation.{Derives}
use Rattle.df_nowed.specs.Laws.{ValidSequentsAreValidObligations}
use Rattle.df_npass.specs.Laws.{AllValidIsSafe}
use Rattle.df_npass.specs.Laws as trees
use Rattle.df_npass.specs.Methods.{Obligation, obligations}
use Rattle.df_nproof.specs.Derived.{IsDerived, AreDerived}
use Rattle.df_nproof.specs.Laws.{ProofsAreCorrect}

module _ (valid : (s : Sequent) (log : List Step) → IsSequent s → Derives s log → IsValid s) (same : ValidSequentsAreValidObligations) where
  is_valid : (program : Program) (o : Obligation) (log : List Step) → IsDerived program o log → trees.IsValid program o
  is_valid program o log h =
      subst (trees.IsValid program) h.is_of.owed ((same program o.declaration o.pos o.kind h.sequent h.is_of.world).0 (valid h.sequent log h.is_of.sequent h.derives))

  valid_at : (program : Program) (os : List Obligation) (logs : List (List Step)) (k : ℕ) (x : Obligation) → AreDerived program os logs → k < length os → get_or os k x ≡ x → trees.IsValid program x
  valid_at program [] logs k x are less is = absurd (omega arith)
  valid_at program (o ∷ os) [] k x are less is = absurd are
  valid_at program (o ∷ os) (log ∷ logs) zero x are less is = subst (trees.IsValid program) is (is_valid program o log are.0)
  valid_at program (o ∷ os) (log ∷ logs) (suc k) x are less is = valid_at program os logs k x are.1 (omega arith) is

  pub proofs_are_correct : AllValidIsSafe → SafeIsCorrect → ProofsAreCorrect
  proofs_are_correct safe correct program groups logs typed definite are_groups derived =
      correct program typed definite
      (safe program groups typed definite are_groups (λ o contains. valid_at program (obligations program groups) logs contains.0 o derived contains.1 contains.2))
