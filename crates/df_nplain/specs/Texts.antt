-- That printed text stays.
use Rattle.std.specs.Prelude.{◌≡◌, ℕ, List}
use Rattle.df_meaning.specs.Value.{Value}
use Rattle.df_meaning.specs.Texts.{Extends}
use Rattle.df_nplain.specs.Stmt.{Stmt}
use Rattle.df_nplain.specs.Plain.{Method, Plain}
use Rattle.df_nplain.specs.Outcome.{Gives}
use Rattle.df_nplain.specs.State.{State}
use Rattle.df_nplain.specs.Meaning.{Flow, state_of, Returned}
use Rattle.df_nplain.specs.Execution.{execute}
use Rattle.df_nplain.specs.Whole.{run_method, whole}

-- A whole run of a statement keeps in front what was printed before it.
abbrev pub StatementsKeepText : Type 0
StatementsKeepText = (program : Plain) (depth : ℕ) (s : State) (stmt : Stmt) (flow : Flow) → execute (whole program depth) s stmt ≡ Gives flow → Extends (state_of flow).text s.text

-- And so does one of a method.
abbrev pub MethodsKeepText : Type 0
MethodsKeepText = (program : Plain) (depth : ℕ) (method : Method) (arguments : List Value) (text : List ℕ) (returned : Returned)
    → run_method (whole program depth) method arguments text ≡ Gives returned → Extends returned.text text
