-- That what is well typed has values of its types.
use Rattle.std.specs.Prelude.{◌≡◌, ℕ, true, List, Some, slice_get}
use Rattle.df_base.specs.declared.pos.Pos.{Pos}
use Rattle.df_lang.specs.declared.ty.Ty.{Ty}
use Rattle.df_lang.specs.Expr.{Expr}
use Rattle.df_lang.specs.Stmt.{Stmt}
use Rattle.df_lang.specs.Program.{Method, Program, method_at, types_of}
use Rattle.df_lang.specs.Typing.{is_expr, Setting, locals_after, is_stmt, is_well_typed}
use Rattle.df_meaning.specs.Value.{Value}
use Rattle.df_meaning.specs.Types.{has_type, have_types}
use Rattle.df_meaning.specs.Outcome.{Gives}
use Rattle.df_meaning.specs.State.{Store, State, value_at}
use Rattle.df_meaning.specs.Meaning.{Meaning, Flow, state_of, Returned}
use Rattle.df_meaning.specs.Evaluation.{evaluate}
use Rattle.df_meaning.specs.Execution.{execute}
use Rattle.df_meaning.specs.Whole.{run_method, whole}

-- each local that has a value, and a type, has one of its type
pub record AreTyped (program : Program) (locals : List Ty) (s : State) : Type 0 where
  pub at : (local : ℕ) (ty : Ty) (value : Value) → slice_get locals local ≡ Some ty → value_at s local ≡ Some value → has_type program ty value ≡ true

-- The value of a well-typed expression is of its type.
abbrev pub ExpressionsAreTyped : Type 0
ExpressionsAreTyped = (m : Meaning) (locals : List Ty) (s : State) (ty : Ty) (e : Expr) (value : Value)
    → AreTyped m.program locals s → is_expr m.program locals ty e ≡ true → evaluate m s e ≡ Gives value → has_type m.program ty value ≡ true

-- In a well-typed program a whole run of a well-typed statement leaves the locals values of their types.
abbrev pub LocalsKeepTypes : Type 0
LocalsKeepTypes = (setting : Setting) (depth : ℕ) (s : State) (stmt : Stmt) (flow : Flow) → is_well_typed setting.program ≡ true → is_stmt setting stmt ≡ true
    → AreTyped setting.program (locals_after setting.locals stmt) s → execute (whole setting.program depth) s stmt ≡ Gives flow → AreTyped setting.program (locals_after setting.locals stmt) (state_of flow)

-- In a well-typed program the results of a method are of their types, on arguments of the types of its parameters.
abbrev pub ResultsAreTyped : Type 0
ResultsAreTyped = (program : Program) (depth number : ℕ) (pos : Pos) (method : Method) (arguments : List Value) (store : Store) (returned : Returned)
    → is_well_typed program ≡ true → method_at program number ≡ Some method → have_types program (types_of method.parameters) arguments ≡ true
    → run_method (whole program depth) pos method arguments store ≡ Gives returned → have_types program (types_of method.results) returned.values ≡ true
