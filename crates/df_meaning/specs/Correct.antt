-- Total correctness of methods, over whole runs alone.
use Rattle.std.specs.Prelude.{◌≡◌, ◌≢◌, ℕ, true, List, [], Some, codes}
use Rattle.df_base.specs.declared.pos.Pos.{Pos}
use Rattle.df_lang.specs.Program.{Method, Program, method_at, types_of}
use Rattle.df_meaning.specs.declared.kind.Kind.{Kind}
use Rattle.df_meaning.specs.Value.{Value}
use Rattle.df_meaning.specs.Types.{have_types}
use Rattle.df_meaning.specs.Outcome.{Gives, Wrong}
use Rattle.df_meaning.specs.State.{Store, begin}
use Rattle.df_meaning.specs.Meaning.{Returned}
use Rattle.df_meaning.specs.Whole.{whole, check_call, run_method}

-- at some depth the preconditions are true of the arguments
pub record MeetsPreconditions (program : Program) (method : Method) (arguments : List Value) (store : Store) : Type 0 where
  pub depth : ℕ
  pub met : check_call (whole program depth) (begin arguments store) method.declared.pos method.preconditions ≡ Gives (begin arguments store)

-- at some depth the run of the method ends, and what it owes is true
pub record Completes (program : Program) (method : Method) (arguments : List Value) (store : Store) : Type 0 where
  pub depth : ℕ
  pub returned : Returned
  pub ends : run_method (whole program depth) method.declared.pos method arguments store ≡ Gives returned

-- A method is correct where, on arguments of their types that meet its preconditions, no run of it is wrong at
-- any depth, and it completes.
pub record IsCorrect (program : Program) (method : Method) : Type 0 where
  pub never_wrong : (arguments : List Value) (store : Store) → have_types program (types_of method.parameters) arguments ≡ true → MeetsPreconditions program method arguments store
      → (depth : ℕ) (pos : Pos) (kind : Kind) → run_method (whole program depth) method.declared.pos method arguments store ≢ Wrong pos kind
  pub completes : (arguments : List Value) (store : Store) → have_types program (types_of method.parameters) arguments ≡ true → MeetsPreconditions program method arguments store
      → Completes program method arguments store

-- every method is correct
abbrev pub AreCorrect : Program → Type 0
AreCorrect program = (number : ℕ) (method : Method) → method_at program number ≡ Some method → IsCorrect program method

-- the entry: a method Main without parameters, results or preconditions
pub record IsEntry (program : Program) (number : ℕ) (method : Method) : Type 0 where
  pub declared : method_at program number ≡ Some method
  pub text : method.declared.text ≡ codes "Main"
  pub parameters : method.parameters ≡ []
  pub results : method.results ≡ []
  pub preconditions : method.preconditions ≡ []
