-- More depth keeps what statements do.
use Rattle.std.proofs.Common.{◌≤◌, ℕ, zero, suc, List, refl, arith}
use Rattle.df_base.specs.declared.pos.Pos.{Pos}
use Rattle.df_lang.specs.Expr.{Expr}
use Rattle.df_lang.specs.Stmt.{Operand, Conversion, Source, Clause, Stmt, Stmts, Branches}
use Rattle.df_lang.specs.Program.{Method, Program}
use Rattle.df_meaning.specs.declared.kind.Kind.{Kind}
use Rattle.df_meaning.specs.Value as values
use Rattle.df_meaning.specs.Outcome.{Outcome, after}
use Rattle.df_meaning.specs.State.{Store, State}
use Rattle.df_meaning.specs.Meaning.{Meaning, Flow, Loop, Returned}
use Rattle.df_meaning.specs.Execution.{evaluate_all, check_all, convert_all, execute_sources, print_all, execute, execute_all, execute_branches}
use Rattle.df_meaning.specs.Whole.{check_call, run_body, run_method, turn_by, turns_with, meaning_of, call_by, by_depth, whole}
use Rattle.df_meaning.specs.Growing.{◌⊑◌, Below}
use Rattle.df_meaning.proofs.Outcomes.{same_grows, after_grows}
use Rattle.df_meaning.proofs.Growing.{evaluate_grows}
use Rattle.df_meaning.proofs.Lifting.{AreRelated}
use Rattle.df_meaning.proofs.Lifting as lifted

-- the relation of outcomes, and that binding keeps it
abbrev pub Grown : (A : Type 0) → Outcome A → Outcome A → Type 0
Grown A o p = o ⊑ p

pub same_grown : (A : Type 0) (o : Outcome A) → Grown A o o
same_grown A o = same_grows o

pub bound_grown : (A B : Type 0) (o p : Outcome A) (f g : A → Outcome B) → Grown A o p → ((a : A) → Grown B (f a) (g a)) → Grown B (after o f) (after p g)
bound_grown A B o p f g h k = after_grows o p f g h k

module _ (m n : Meaning) (h : Below m n) where
  related : AreRelated Grown m n
  related = record { program = h.program; value = λ s e. evaluate_grows m n h s e; call = h.call; turns = h.turns }

  pub values_grow : (s : State) (es : List Expr) → evaluate_all m s es ⊑ evaluate_all n s es
  values_grow s es = lifted.all_values Grown same_grown bound_grown m n related s es

  pub checks_grow : (s : State) (kind : Kind) (clauses : List Clause) → check_all m s kind clauses ⊑ check_all n s kind clauses
  checks_grow s kind clauses = lifted.checks Grown same_grown bound_grown m n related s kind clauses

  pub owed_grows : (s : State) (at : Pos) (clauses : List Clause) → check_call m s at clauses ⊑ check_call n s at clauses
  owed_grows s at clauses = lifted.owed Grown same_grown bound_grown m n related s at clauses

  pub conversions_grow : (at : Pos) (cs : List Conversion) (vs : List values.Value) → convert_all m at cs vs ⊑ convert_all n at cs vs
  conversions_grow at cs vs = lifted.conversions Grown same_grown bound_grown m n related at cs vs

  pub sources_grow : (s : State) (sources : List Source) → execute_sources m s sources ⊑ execute_sources n s sources
  sources_grow s sources = lifted.from_sources Grown same_grown bound_grown m n related s sources

  pub prints_grow : (s : State) (operands : List Operand) → print_all m s operands ⊑ print_all n s operands
  prints_grow s operands = lifted.prints Grown same_grown bound_grown m n related s operands

  pub execute_grows : (s : State) (stmt : Stmt) → execute m s stmt ⊑ execute n s stmt
  execute_grows s stmt = lifted.statement Grown same_grown bound_grown m n related s stmt

  pub all_grow : (s : State) (all : Stmts) → execute_all m s all ⊑ execute_all n s all
  all_grow s all = lifted.statements Grown same_grown bound_grown m n related s all

  pub branches_grow : (s : State) (branches : Branches) (o p : Outcome Flow) → o ⊑ p → execute_branches m s branches o ⊑ execute_branches n s branches p
  branches_grow s branches o p e = lifted.among Grown same_grown bound_grown m n related s branches o p e

  pub body_grows : (method : Method) (s : State) → run_body m method s ⊑ run_body n method s
  body_grows method s = lifted.body_related Grown same_grown bound_grown m n related method s

  pub method_grows : (at : Pos) (method : Method) (arguments : List values.Value) (store : Store) → run_method m at method arguments store ⊑ run_method n at method arguments store
  method_grows at method arguments store = lifted.method_related Grown same_grown bound_grown m n related at method arguments store

  pub turn_grows : (loop : Loop) (s : State) → turn_by m loop s ⊑ turn_by n loop s
  turn_grows loop s = lifted.turn_related Grown same_grown bound_grown m n related loop s

  pub calls_grow : (at : Pos) (callee : ℕ) (arguments : List values.Value) (store : Store) → call_by m at callee arguments store ⊑ call_by n at callee arguments store
  calls_grow at callee arguments store = lifted.found Grown same_grown bound_grown Returned m.program n.program callee _ _ h.program (λ method. method_grows at method arguments store)

pub turns_grow : (o p : Outcome values.Value) (s : State) (x y : Outcome Flow) → o ⊑ p → x ⊑ y → turns_with o s x ⊑ turns_with p s y
turns_grow o p s x y e h = lifted.turns_related Grown same_grown bound_grown o p s x y e h

-- ---- whole runs

-- meanings of calls and turns that grow
pub meaning_grows : (program : Program) (f g : Pos → ℕ → List values.Value → Store → Outcome Returned) (t u : Loop → State → Outcome Flow)
    → ((at : Pos) (callee : ℕ) (arguments : List values.Value) (store : Store) → f at callee arguments store ⊑ g at callee arguments store)
    → ((loop : Loop) (s : State) → t loop s ⊑ u loop s) → Below (meaning_of program f t) (meaning_of program g u)
meaning_grows program f g t u calls turns = record {
  program = refl;
  call = calls;
  turns = λ loop s. turns_grow _ _ s _ _
      (evaluate_grows _ _ (record { program = refl; call = calls; turns = λ other v. tt }) s loop.guard) (turns loop s);
}

-- calls and turns by depth that grow with what they stand on
pub by_depth_grows : (call : Meaning → Pos → ℕ → List values.Value → Store → Outcome Returned) (turn : Meaning → Loop → State → Outcome Flow)
    → ((m n : Meaning) → Below m n → (at : Pos) (callee : ℕ) (arguments : List values.Value) (store : Store) → call m at callee arguments store ⊑ call n at callee arguments store)
    → ((m n : Meaning) → Below m n → (loop : Loop) (s : State) → turn m loop s ⊑ turn n loop s)
    → (program : Program) (depth more : ℕ) → depth ≤ more → Below (by_depth call turn program depth) (by_depth call turn program more)
by_depth_grows call turn calls turns program zero zero le = meaning_grows program _ _ _ _ (λ at callee arguments store. tt) (λ loop s. tt)
by_depth_grows call turn calls turns program zero (suc more) le = meaning_grows program _ _ _ _ (λ at callee arguments store. tt) (λ loop s. tt)
by_depth_grows call turn calls turns program (suc depth) zero le = absurd (omega (arith, le))
by_depth_grows call turn calls turns program (suc depth) (suc more) le =
    let h : Below (by_depth call turn program depth) (by_depth call turn program more) = by_depth_grows call turn calls turns program depth more (omega (arith, le)) in
    meaning_grows program _ _ _ _ (calls _ _ h) (turns _ _ h)

pub wholes_grow : (program : Program) (depth more : ℕ) → depth ≤ more → Below (whole program depth) (whole program more)
wholes_grow program depth more le = by_depth_grows call_by turn_by calls_grow turn_grows program depth more le
