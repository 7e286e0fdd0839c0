-- What calls and turns of loops mean: execution is a functional over it.
use Rattle.std.specs.Prelude.{ℕ, List}
use Rattle.df_meaning.specs.Value.{Value}
use Rattle.df_nplain.specs.Expr.{Expr}
use Rattle.df_nplain.specs.Stmt.{Stmts}
use Rattle.df_nplain.specs.Plain.{Plain}
use Rattle.df_nplain.specs.Outcome.{Outcome}
use Rattle.df_nplain.specs.State.{State}

-- a statement goes on, returns from its method, or breaks out of its loop
pub data Flow : Type 0 where
  Next : State → Flow
  Return : State → Flow
  Break : State → Flow

-- the state that a statement leaves, however it goes on
abbrev pub state_of : Flow → State
state_of (Next s) = s
state_of (Return s) = s
state_of (Break s) = s

-- what a call comes to: the results, and the text printed by then
pub record Returned : Type 0 where
  pub values : List Value
  pub text : List ℕ

-- a loop of the text
pub record Loop : Type 0 where
  pub guard : Expr
  pub body : Stmts

pub record Meaning : Type 0 where
  pub program : Plain
  -- a call of the method of a number, on arguments, and the text printed so far
  pub call : ℕ → List Value → List ℕ → Outcome Returned
  -- the turns of a loop: from its guard on
  pub turns : Loop → State → Outcome Flow
