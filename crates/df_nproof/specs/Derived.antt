-- Logs that derive the obligations of a program.
use Rattle.std.specs.Prelude.{ℕ, List, [], ◌∷◌}
use Rattle.df_lang.specs.Groups.{AreGroups}
use Rattle.df_lang.specs.Program.{Program}
use Rattle.df_form.specs.Log.{Step}
use Rattle.df_form.specs.Sequent.{Sequent}
use Rattle.df_rules.specs.Derivation.{Derives}
use Rattle.df_npass.specs.Methods.{Obligation, obligations}
use Rattle.df_nverdict.specs.Sequents.{IsSequentOf}

-- the log derives the sequent of the obligation
pub record IsDerived (program : Program) (o : Obligation) (log : List Step) : Type 0 where
  pub sequent : Sequent
  pub is_of : IsSequentOf program o sequent
  pub derives : Derives sequent log

-- there is one log for each of the obligations, in their order, and it derives it
abbrev pub AreDerived : Program → List Obligation → List (List Step) → Type 0
AreDerived program [] [] = Unit {0}
AreDerived program [] (log ∷ logs) = ⊥
AreDerived program (o ∷ os) [] = ⊥
AreDerived program (o ∷ os) (log ∷ logs) = IsDerived program o log × AreDerived program os logs

-- of all obligations of the program, over its groups
pub record AreProofs (program : Program) (logs : List (List Step)) : Type 0 where
  pub groups : List ℕ
  pub are_groups : AreGroups program groups
  pub derived : AreDerived program (obligations program groups) logs
