-- That more depth keeps an answer.
use Rattle.std.specs.Prelude.{◌≡◌, ◌≤◌, ℕ, List}
use Rattle.df_base.specs.declared.pos.Pos.{Pos}
use Rattle.df_lang.specs.Expr.{Expr}
use Rattle.df_lang.specs.Stmt.{Stmt}
use Rattle.df_lang.specs.Program.{Method, Program}
use Rattle.df_meaning.specs.Value.{Value}
use Rattle.df_meaning.specs.Outcome.{Outcome, Gives, Wrong, TooDeep, NoChoice, Dismissed}
use Rattle.df_meaning.specs.State.{Store, State}
use Rattle.df_meaning.specs.Meaning.{Meaning, Loop}
use Rattle.df_meaning.specs.Evaluation.{evaluate}
use Rattle.df_meaning.specs.Execution.{execute}
use Rattle.df_meaning.specs.Whole.{run_method, whole}

-- the same, unless the first was too deep
infix 20 ◌⊑◌
abbrev pub ◌⊑◌ : {A : Type 0} → Outcome A → Outcome A → Type 0
(Gives a) ⊑ o = o ≡ Gives a
(Wrong pos kind) ⊑ o = o ≡ Wrong pos kind
TooDeep ⊑ o = Unit {0}
NoChoice ⊑ o = o ≡ NoChoice
Dismissed ⊑ o = o ≡ Dismissed

-- what the one says of calls and loops the other says too
pub record Below (m n : Meaning) : Type 0 where
  pub program : m.program ≡ n.program
  pub call : (pos : Pos) (callee : ℕ) (arguments : List Value) (store : Store) → m.call pos callee arguments store ⊑ n.call pos callee arguments store
  pub turns : (loop : Loop) (s : State) → m.turns loop s ⊑ n.turns loop s

abbrev pub ExpressionsGrow : Type 0
ExpressionsGrow = (m n : Meaning) → Below m n → (s : State) (e : Expr) → evaluate m s e ⊑ evaluate n s e

abbrev pub StatementsGrow : Type 0
StatementsGrow = (m n : Meaning) → Below m n → (s : State) (stmt : Stmt) → execute m s stmt ⊑ execute n s stmt

-- More depth keeps what calls and loops do.
abbrev pub WholesGrow : Type 0
WholesGrow = (program : Program) (depth more : ℕ) → depth ≤ more → Below (whole program depth) (whole program more)

-- More depth keeps what a run of a method comes to, also that it is wrong.
abbrev pub MethodsGrow : Type 0
MethodsGrow = (program : Program) (depth more : ℕ) → depth ≤ more → (pos : Pos) (method : Method) (arguments : List Value) (store : Store)
    → run_method (whole program depth) pos method arguments store ⊑ run_method (whole program more) pos method arguments store
