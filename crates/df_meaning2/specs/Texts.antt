-- That runs keep in front what was printed before them.
use Rattle.std.specs.Prelude.{◌≡◌, ℕ, List, ◌++◌}
use Rattle.df_base.specs.declared.pos.Pos.{Pos}
use Rattle.df_types.specs.Ty.{Tys}
use Rattle.df_types.specs.Stmt.{Stmt}
use Rattle.df_types.specs.Program.{Method, Program}
use Rattle.df_meaning2.specs.Value.{Value}
use Rattle.df_meaning2.specs.Outcome.{Each}
use Rattle.df_meaning2.specs.State.{State}
use Rattle.df_meaning2.specs.Execution.{Flow, Given, state_of, execute}
use Rattle.df_meaning2.specs.Whole.{doing, run_method}

-- the text of the one is that of the other, and more
pub record Extends (s t : State) : Type 0 where
  pub more : List ℕ
  pub by : t.store.text ≡ s.store.text ++ more

abbrev pub FlowExtends : State → Flow → Type 0
FlowExtends s flow = Extends s (state_of flow)

abbrev pub GivenExtends : State → Given → Type 0
GivenExtends s given = Extends s given.state

abbrev pub StatementsKeepText : Type 0
StatementsKeepText = (p : Program) (depth : ℕ) (s : State) (stmt : Stmt) → Each (FlowExtends s) (execute (doing p depth) s stmt)

abbrev pub MethodsKeepText : Type 0
MethodsKeepText = (p : Program) (depth : ℕ) (at : Pos) (types : Tys) (arguments : List Value) (s : State) (m : Method) → Each (GivenExtends s) (run_method (doing p depth) at types arguments s m)
