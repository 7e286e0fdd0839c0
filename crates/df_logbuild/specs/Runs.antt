-- Logs that run.
use Rattle.std.specs.Prelude.{◌≡◌, List, length, map, Some}
use Rattle.df_form.specs.Sequent.{Sequent}
use Rattle.df_form.specs.Clause.{Clause}
use Rattle.df_form.specs.Log.{step_of}
use Rattle.df_rules.specs.Derivation.{State, begin, after_all}
use Rattle.df_logbuild.specs.declared.derivation.Derivation.{Derivation}

abbrev pub state_of : Derivation → List Clause → State
state_of d clauses = record { nodes = d.nodes; clauses = clauses }

-- the lines are those of a log of the sequent, which then has the nodes and these clauses under their numbers
pub record Runs (s : Sequent) (d : Derivation) (clauses : List Clause) : Type 0 where
  pub run : after_all s (begin s) (map step_of d.lines.items) ≡ Some (state_of d clauses)
  pub count : length clauses ≡ d.clauses
