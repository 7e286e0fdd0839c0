-- That more depth keeps an answer.
use Rattle.std.specs.Prelude.{◌≡◌, ◌≤◌, ℕ, ℤ, Bool, List, [], ◌∷◌}
use Rattle.df_base.specs.declared.pos.Pos.{Pos}
use Rattle.df_types.specs.declared.kind.Kind.{Kind}
use Rattle.df_types.specs.Ty.{Ty, Tys}
use Rattle.df_types.specs.Expr.{Expr}
use Rattle.df_types.specs.Stmt.{CallOf, Stmt}
use Rattle.df_types.specs.Program.{Method, Program}
use Rattle.df_meaning2.specs.Value.{Value}
use Rattle.df_meaning2.specs.Outcome.{Outcome, ◌⊑◌}
use Rattle.df_meaning2.specs.State.{State}
use Rattle.df_meaning2.specs.Meaning.{Meaning, evaluate}
use Rattle.df_meaning2.specs.Execution.{Loop, Actions, execute}
use Rattle.df_meaning2.specs.Whole.{doing, run_method}

-- what the one says of functions the other says, unless it was too deep
pub record MeansLess (m n : Meaning) : Type 0 where
  pub program : m.program ≡ n.program
  pub first : (site : ℕ) → m.first site ≡ n.first site
  pub apply : (at : Pos) (callee : ℕ) (types : Tys) (arguments : List Value) (s : State) → m.apply at callee types arguments s ⊑ n.apply at callee types arguments s

pub record LoopBelow (l k : Loop) : Type 0 where
  pub site : l.site ≡ k.site
  pub pos : l.pos ≡ k.pos
  pub assigned : l.assigned ≡ k.assigned
  pub touches : l.touches ≡ k.touches
  pub guard : (s : State) → l.guard s ⊑ k.guard s
  pub check : (kind : Kind) (s : State) → l.check kind s ⊑ k.check kind s
  pub assume : (s : State) → l.assume s ⊑ k.assume s
  pub measure : (s : State) → l.measure s ⊑ k.measure s
  pub body : (s : State) → l.body s ⊑ k.body s

abbrev pub RangesBelow : List (State → Outcome (List Value)) → List (State → Outcome (List Value)) → Type 0
RangesBelow [] [] = Unit {0}
RangesBelow [] (y ∷ ys) = ⊥
RangesBelow (x ∷ xs) [] = ⊥
RangesBelow (x ∷ xs) (y ∷ ys) = ((s : State) → x s ⊑ y s) × RangesBelow xs ys

-- what the one does the other does, unless it was too deep
pub record DoesLess (m n : Actions) : Type 0 where
  pub meaning : MeansLess m.meaning n.meaning
  pub call : (call : CallOf) (arguments : List Value) (s : State) → m.call call arguments s ⊑ n.call call arguments s
  pub loop : (text : Stmt) (l k : Loop) → LoopBelow l k → (s : State) → m.loop text l s ⊑ n.loop text k s
  pub pick : (site count : ℕ) (f g : List Value → Outcome Bool) → ((vs : List Value) → f vs ⊑ g vs) → (s : State) → m.pick site count f s ⊑ n.pick site count g s
  pub new : (site : ℕ) (s : State) → m.new site s ⊑ n.new site s
  pub elements : (site : ℕ) (t : Ty) (size : ℤ) (s : State) → m.elements site t size s ⊑ n.elements site t size s
  pub prove : (site : ℕ) (ranges others : List (State → Outcome (List Value))) (f g known and_known : State → Outcome State) → RangesBelow ranges others
      → ((s : State) → f s ⊑ g s) → ((s : State) → known s ⊑ and_known s) → (s : State) → m.prove site ranges f known s ⊑ n.prove site others g and_known s

abbrev pub ExpressionsGrow : Type 0
ExpressionsGrow = (m n : Meaning) → MeansLess m n → (s : State) (e : Expr) → evaluate m s e ⊑ evaluate n s e

abbrev pub StatementsGrow : Type 0
StatementsGrow = (m n : Actions) → DoesLess m n → (s : State) (stmt : Stmt) → execute m s stmt ⊑ execute n s stmt

-- More depth keeps what functions, calls, loops and proofs do.
abbrev pub WholesGrow : Type 0
WholesGrow = (p : Program) (depth more : ℕ) → depth ≤ more → DoesLess (doing p depth) (doing p more)

-- More depth keeps what a run of a method comes to, also that it is wrong.
abbrev pub MethodsGrow : Type 0
MethodsGrow = (p : Program) (depth more : ℕ) → depth ≤ more → (at : Pos) (types : Tys) (arguments : List Value) (s : State) (m : Method)
    → run_method (doing p depth) at types arguments s m ⊑ run_method (doing p more) at types arguments s m
