-- What the calls of a checker do.
use Rattle.std.specs.Prelude.{◌≡◌, ℕ, ◌+◌, true, false, List, map, None, Some, Result, Ok, Err}
use Rattle.df_form.specs.declared.sequent.Sequent as declared_sequent
use Rattle.df_form.specs.SequentView.{sequent_of}
use Rattle.df_form.specs.Log.{Step}
use Rattle.df_form.specs.Sequent.{Sequent, IsValid}
use Rattle.df_kern.specs.declared.accepted.Accepted.{Accepted}
use Rattle.df_kern.specs.declared.checker.Checker.{Checker}
use Rattle.df_kern.specs.declared.fault.KernFault.{KernFault}
use Rattle.df_kern.specs.declared.fault.KernFault.TheVariants.{Refused, Memory}
use Rattle.df_rules.specs.Derivation.{State, begin, after, after_all, ends_empty, kind_row}

-- a checker without where it lies in memory: its sequent, and the state of its derivation
abbrev pub goal_of : Checker → Sequent
goal_of c = sequent_of c.sequent.now

abbrev pub state_of : Checker → State
state_of c = record { nodes = c.nodes; clauses = map (λ clause. clause.items) c.clauses.items }

-- it has taken nothing yet
pub record IsBegun (start : declared_sequent.Sequent) (c : Checker) : Type 0 where
  pub sequent : goal_of c ≡ sequent_of start
  pub state : state_of c ≡ begin (sequent_of start)
  pub taken : c.taken ≡ 0

-- it stands as another
pub record IsSame (old new : Checker) : Type 0 where
  pub sequent : goal_of new ≡ goal_of old
  pub state : state_of new ≡ state_of old
  pub taken : new.taken ≡ old.taken

-- the step was taken
pub record HasTaken (old new : Checker) (step : Step) : Type 0 where
  pub sequent : goal_of new ≡ goal_of old
  pub state : after (goal_of old) (state_of old) step ≡ Some (state_of new)
  pub taken : new.taken ≡ old.taken + 1

-- the step is no line of a derivation, and is told by its number, from 1, and the row of its kind
pub record HasRefused (old : Checker) (step : Step) (number row : ℕ) : Type 0 where
  pub line : after (goal_of old) (state_of old) step ≡ None
  pub at : number ≡ old.taken + 1
  pub broken : row ≡ kind_row step

abbrev pub Takes : Checker → Checker → Result (Unit {0}) KernFault → Step → Type 0
Takes old new (Ok done) step = HasTaken old new step
Takes old new (Err (Refused at broken)) step = HasRefused old step at broken × IsSame old new
Takes old new (Err Memory) step = IsSame old new

-- the log ends with the empty clause and is accepted with its steps, or is refused for want of that clause
abbrev pub Finishes : Checker → Result Accepted KernFault → Type 0
Finishes c (Ok accepted) = (ends_empty (state_of c).clauses ≡ true) × (accepted.steps ≡ c.taken)
Finishes c (Err (Refused at broken)) = (ends_empty (state_of c).clauses ≡ false) × (at ≡ c.taken + 1) × (broken ≡ 0)
Finishes c (Err Memory) = ⊥

-- where its state is the one after some log, its sequent is valid
abbrev pub ProvesGoal : Checker → Type 0
ProvesGoal c = (log : List Step) → after_all (goal_of c) (begin (goal_of c)) log ≡ Some (state_of c) → IsValid (goal_of c)
