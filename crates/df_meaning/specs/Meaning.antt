-- What calls and turns of loops mean: execution is a functional over it.
use Rattle.std.specs.Prelude.{ℕ, List, Option}
use Rattle.df_base.specs.declared.pos.Pos.{Pos}
use Rattle.df_lang.specs.Expr.{Expr}
use Rattle.df_lang.specs.Stmt.{Clause, Measure, Stmts}
use Rattle.df_lang.specs.Program.{Program}
use Rattle.df_meaning.specs.Value.{Value}
use Rattle.df_meaning.specs.Outcome.{Outcome}
use Rattle.df_meaning.specs.State.{Store, State}

-- a statement goes on, returns from its method, or breaks out of its loop
pub data Flow : Type 0 where
  Next : State → Flow
  Return : State → Flow
  Break : State → Flow

-- the state that a statement leaves, however it goes on
abbrev pub state_of : Flow → State
state_of (Next s) = s
state_of (Return s) = s
state_of (Break s) = s

-- what a call comes to: the results, and the store behind it
pub record Returned : Type 0 where
  pub values : List Value
  pub store : Store

-- a loop of the text
pub record Loop : Type 0 where
  pub pos : Pos
  pub guard : Expr
  pub invariants : List Clause
  pub decreases : Option (List Measure)
  pub body : Stmts

pub record Meaning : Type 0 where
  pub program : Program
  -- a call at a position of the method of a number, on arguments
  pub call : Pos → ℕ → List Value → Store → Outcome Returned
  -- the turns of a loop whose invariants are true: from its guard on
  pub turns : Loop → State → Outcome Flow
