-- That more depth keeps an answer.
use Rattle.std.specs.Prelude.{◌≡◌, ◌≤◌, ℕ, List}
use Rattle.df_meaning.specs.Value.{Value}
use Rattle.df_nplain.specs.Stmt.{Stmt}
use Rattle.df_nplain.specs.Plain.{Method, Plain}
use Rattle.df_nplain.specs.Outcome.{Outcome, Gives, Wrong, TooDeep, Stuck}
use Rattle.df_nplain.specs.State.{State}
use Rattle.df_nplain.specs.Meaning.{Meaning, Loop}
use Rattle.df_nplain.specs.Execution.{execute}
use Rattle.df_nplain.specs.Whole.{run_method, whole}

-- the same, unless the first was too deep
infix 20 ◌⊑◌
abbrev pub ◌⊑◌ : {A : Type 0} → Outcome A → Outcome A → Type 0
(Gives a) ⊑ o = o ≡ Gives a
(Wrong fault) ⊑ o = o ≡ Wrong fault
TooDeep ⊑ o = Unit {0}
Stuck ⊑ o = o ≡ Stuck

-- what the one says of calls and loops the other says too
pub record Below (m n : Meaning) : Type 0 where
  pub program : m.program ≡ n.program
  pub call : (callee : ℕ) (arguments : List Value) (text : List ℕ) → m.call callee arguments text ⊑ n.call callee arguments text
  pub turns : (loop : Loop) (s : State) → m.turns loop s ⊑ n.turns loop s

-- What statements do over a meaning that says less, they do over one that says more.
abbrev pub StatementsGrow : Type 0
StatementsGrow = (m n : Meaning) → Below m n → (s : State) (stmt : Stmt) → execute m s stmt ⊑ execute n s stmt

-- More depth keeps what calls and loops do.
abbrev pub WholesGrow : Type 0
WholesGrow = (program : Plain) (depth more : ℕ) → depth ≤ more → Below (whole program depth) (whole program more)

-- More depth keeps what a run of a method comes to, also that it is wrong.
abbrev pub MethodsGrow : Type 0
MethodsGrow = (program : Plain) (depth more : ℕ) → depth ≤ more → (method : Method) (arguments : List Value) (text : List ℕ)
    → run_method (whole program depth) method arguments text ⊑ run_method (whole program more) method arguments text
