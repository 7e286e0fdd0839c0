-- That printed text stays.
use Rattle.std.specs.Prelude.{◌≡◌, ℕ, List, ◌++◌}
use Rattle.df_base.specs.declared.pos.Pos.{Pos}
use Rattle.df_lang.specs.Stmt.{Stmt}
use Rattle.df_lang.specs.Program.{Method, Program}
use Rattle.df_meaning.specs.Value.{Value}
use Rattle.df_meaning.specs.Outcome.{Gives}
use Rattle.df_meaning.specs.State.{Store, State}
use Rattle.df_meaning.specs.Meaning.{Flow, state_of, Returned}
use Rattle.df_meaning.specs.Execution.{execute}
use Rattle.df_meaning.specs.Whole.{run_method, whole}

-- the one text begins with the other
pub record Extends (text front : List ℕ) : Type 0 where
  pub rest : List ℕ
  pub parts : text ≡ front ++ rest

-- A whole run of a statement keeps in front what was printed before it.
abbrev pub StatementsKeepText : Type 0
StatementsKeepText = (program : Program) (depth : ℕ) (s : State) (stmt : Stmt) (flow : Flow) → execute (whole program depth) s stmt ≡ Gives flow → Extends (state_of flow).store.text s.store.text

-- And so does one of a method.
abbrev pub MethodsKeepText : Type 0
MethodsKeepText = (program : Program) (depth : ℕ) (pos : Pos) (method : Method) (arguments : List Value) (store : Store) (returned : Returned)
    → run_method (whole program depth) pos method arguments store ≡ Gives returned → Extends returned.store.text store.text
