-- Where the parts of a log are refused.
use Rattle.std.specs.Prelude.{◌≡◌, ◌⊎◌, ◌+◌, ℕ, List, ◌∷◌, ◌++◌, length, take, slice_get, Option, None, Some}
use Rattle.df_lang.specs.Groups.{AreGroups}
use Rattle.df_lang.specs.Program.{Program}
use Rattle.df_form.specs.Log.{Step}
use Rattle.df_form.specs.Sequent.{Sequent}
use Rattle.df_kern.specs.Refusal.{refusal}
use Rattle.df_npass.specs.Methods.{Obligation, obligations}
use Rattle.df_nverdict.specs.Sequents.{IsSequentOf}
use Rattle.df_nproof.specs.Derived.{AreDerived}

-- The log is refused at this step, from 1, of the sequent of the obligation. Where it only lacks the empty clause, the
-- step is one more than it has.
pub record IsBroken (program : Program) (o : Obligation) (log : List Step) (step : ℕ) : Type 0 where
  pub sequent : Sequent
  pub is_of : IsSequentOf program o sequent
  pub row : ℕ
  pub refused : refusal sequent log ≡ Some (record { at = step; broken = row })

-- a part is missing, which then has no step, or it is refused
abbrev pub IsBadPart : Program → Obligation → Option (List Step) → ℕ → Type 0
IsBadPart program o None step = step ≡ 1
IsBadPart program o (Some log) step = IsBroken program o log step

-- The obligation of this number, from 1, is the first whose part is bad, and it is so at this step.
pub record IsBadAt (program : Program) (os : List Obligation) (parts : List (List Step)) (number step : ℕ) : Type 0 where
  pub before : List Obligation
  pub after : List Obligation
  pub o : Obligation
  pub split : os ≡ before ++ o ∷ after
  pub derived : AreDerived program before (take (length before) parts)
  pub bad : IsBadPart program o (slice_get parts (length before)) step
  pub counted : number ≡ length before + 1

-- Each obligation has its log, and the part of this number, behind theirs, is one too many: the step is one more than it has.
pub record IsSurplus (program : Program) (os : List Obligation) (parts : List (List Step)) (number step : ℕ) : Type 0 where
  pub derived : AreDerived program os (take (length os) parts)
  pub part : List Step
  pub there : slice_get parts (length os) ≡ Some part
  pub counted : number ≡ length os + 1
  pub past : step ≡ length part + 1

-- the first bad part, and its step
abbrev pub IsRefusedAt : Program → List Obligation → List (List Step) → ℕ → ℕ → Type 0
IsRefusedAt program os parts number step = IsBadAt program os parts number step ⊎ IsSurplus program os parts number step

-- of the parts for all obligations of the program, over its groups
pub record AreRefused (program : Program) (parts : List (List Step)) (number step : ℕ) : Type 0 where
  pub groups : List ℕ
  pub are_groups : AreGroups program groups
  pub refused : IsRefusedAt program (obligations program groups) parts number step
