-- Where a log is refused.
use Rattle.std.specs.Prelude.{◌≡◌, ℕ, suc, Result, Ok, Err, List, [], ◌∷◌, Option, None, Some, if◌then◌else◌}
use Rattle.df_kern.specs.declared.accepted.Accepted.{Accepted}
use Rattle.df_kern.specs.declared.fault.KernFault.{KernFault}
use Rattle.df_kern.specs.declared.fault.KernFault.TheVariants.{Refused, Memory}
use Rattle.df_form.specs.Log.{Step}
use Rattle.df_form.specs.Sequent.{Sequent}
use Rattle.df_rules.specs.Derivation.{State, begin, after, ends_empty, kind_row}

-- a step by its number, and the row of its kind; 0 where the empty clause is missing
pub record Refusal : Type 0 where
  pub at : ℕ
  pub broken : ℕ

abbrev pub or_refused : ℕ → ℕ → Option State → (State → Option Refusal) → Option Refusal
or_refused at broken None go = Some (record { at = at; broken = broken })
or_refused at broken (Some next) go = go next

-- The first of these steps that is no line of a derivation, where they count from this number; or, where
-- each is one and the last clause isn't empty, the number after them.
abbrev pub refusal_from : Sequent → ℕ → State → List Step → Option Refusal
refusal_from s first state [] = if ends_empty state.clauses then None else Some (record { at = first; broken = 0 })
refusal_from s first state (step ∷ others) = or_refused first (kind_row step) (after s state step) (λ next. refusal_from s (suc first) next others)

-- where the log is refused; steps count from 1
abbrev pub refusal : Sequent → List Step → Option Refusal
refusal s log = refusal_from s 1 (begin s) log

-- the answer is Ok where nothing is refused, else that refusal; but for want of memory
abbrev pub Answers : Option Refusal → Result Accepted KernFault → Type 0
Answers refused (Ok accepted) = refused ≡ None
Answers refused (Err (Refused at broken)) = refused ≡ Some (record { at = at; broken = broken })
Answers refused (Err Memory) = Unit {0}
