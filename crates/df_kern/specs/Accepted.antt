-- Logs that the kernel took.
use Rattle.std.specs.Prelude.{◌≡◌, List, length}
use Rattle.df_form.specs.Log.{Step}
use Rattle.df_form.specs.Sequent.{Sequent}
use Rattle.df_kern.specs.declared.accepted.Accepted.{Accepted}
use Rattle.df_rules.specs.Derivation.{Derives}

-- the log was taken: it derives the sequent, and has as many steps as were accepted
pub record IsTaken (s : Sequent) (log : List Step) (accepted : Accepted) : Type 0 where
  pub derives : Derives s log
  pub steps : accepted.steps ≡ length log
